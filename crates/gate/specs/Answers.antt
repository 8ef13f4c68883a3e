-- What the calls answer.
use Rattle.std.specs.Prelude.{ℕ, zero, suc, ◌-◌, max, false, List, Some, None, Ok, Err, Option, Result, slice_index, slice_index_or}
use Rattle.gate_model.specs.Table.{Table}
use Rattle.gate_model.specs.Calls.{refusal_of, answered, arm_after}
use Rattle.gate_model.specs.States.{State, arm_at, phase_at}
use Rattle.gate_model.specs.declared.arm.Arm.{Arm}
use Rattle.gate_model.specs.declared.call.Call.{Call}
use Rattle.gate_model.specs.declared.call.Call.TheVariants.{Step as step, Admit as admit, Leave as leave, Look as look, Tally as tally}
use Rattle.gate_model.specs.declared.phase.Phase.{Phase}
use Rattle.gate_model.specs.declared.phase.Phase.TheVariants as P
use Rattle.gate_model.specs.declared.refusal.Refusal.{Refusal}
use Rattle.gate.specs.declared.gate.Tally.{Tally}
use Rattle.gate.specs.declared.gate.View.{View}
use Rattle.gate.specs.declared.pass.HandedBack.{HandedBack}
use Rattle.gate.specs.declared.pass.Pass.{Pass}

-- the answer of a leave: X, or the pass handed back with the refusal
abbrev pub handed_back : Pass → Option Refusal → Result Phase HandedBack
handed_back p None = Ok P.X
handed_back p (Some r) = Err (record { pass = p; refusal = r })

-- the largest of the first n counts of a row
abbrev pub largest_count : List ℕ → ℕ → ℕ
largest_count row zero = 0
largest_count row (suc b) = max (largest_count row b) (slice_index row b)

module _ {At : Type 0} (door : Table At) where
  -- the record of arm i where the call is accepted, else the refusal
  abbrev pub record_for : State At → Call → ℕ → Result (Arm At) Refusal
  record_for s c i = answered (refusal_of door s c) (arm_at door s i)

  -- step answers the phase after it
  abbrev pub step_answer : State At → ℕ → Result Phase Refusal
  step_answer s i = answered (refusal_of door s (step i)) (door.phase (arm_after door s i).position)

  abbrev pub admit_answer : State At → ℕ → Result Pass Refusal
  admit_answer s i = answered (refusal_of door s (admit i)) (record { gate = s.number; arm = i; spent = false })

  abbrev pub leave_answer : State At → Pass → Result Phase HandedBack
  leave_answer s p = handed_back p (refusal_of door s (leave p.gate p.arm))

  abbrev pub let_go_answer : State At → ℕ → Result Phase Refusal
  let_go_answer s i = answered (refusal_of door s (admit i)) P.X

  abbrev pub phase_answer : State At → ℕ → Result Phase Refusal
  phase_answer s i = answered (refusal_of door s (look i)) (phase_at door s i)

  -- what look tells of a record, and of the turns
  abbrev pub view_of : Arm At → ℕ → View
  view_of a turns = record { phase = door.phase a.position; side = a.side; index = door.index a.position; visits = a.visits; out = a.out; turns = turns }

  abbrev pub look_answer : State At → ℕ → Result View Refusal
  look_answer s i = answered (refusal_of door s (look i)) (view_of (arm_at door s i) s.turns)

  -- what tally tells of a record and another arm
  abbrev pub tally_of : Arm At → ℕ → Tally
  tally_of a b = record { count = slice_index a.row (b - 1); idle = slice_index_or a.notes (b - 1) false }

  abbrev pub tally_answer : State At → ℕ → ℕ → Result Tally Refusal
  tally_answer s w b = answered (refusal_of door s (tally w b)) (tally_of (arm_at door s w) b)

  -- the largest count of the row of arm w
  abbrev pub most_answer : State At → ℕ → Result ℕ Refusal
  most_answer s w = answered (refusal_of door s (look w)) (largest_count (arm_at door s w).row s.n)
