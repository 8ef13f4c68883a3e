-- The calls on a gate: which are refused, what an accepted one yields, and what is answered.
use Rattle.std.specs.Prelude.{ℕ, take, ◌+◌, ◌-◌, Bool, true, false, if◌then◌else◌, not, ◌&&◌, ◌||◌, List, [], ◌∷◌, Some, None, Ok, Err, Option, Result, ◌==◌, nat_lt, slice_set}
use Rattle.std.specs.List.{list_any}
use Rattle.gate_model.specs.Limits.{visit_limit}
use Rattle.gate_model.specs.Registers.{value_read, regs_after, memory_after, turns_bit}
use Rattle.gate_model.specs.Table.{Table}
use Rattle.gate_model.specs.Arms.{side_of, has_side, advanced}
use Rattle.gate_model.specs.Tallies.{tallied}
use Rattle.gate_model.specs.States.{State, is_arm, arm_at, phase_at, bit_of, with_arm}
use Rattle.gate_model.specs.declared.access.Access.{Access}
use Rattle.gate_model.specs.declared.arm.Arm.{Arm}
use Rattle.gate_model.specs.declared.call.Call.{Call}
use Rattle.gate_model.specs.declared.call.Call.TheVariants.{Begin as begin, Step as step, Admit as admit, Confirm as confirm, Leave as leave, Look as look, Tally as tally, Way as way}
use Rattle.gate_model.specs.declared.phase.Phase.{Phase}
use Rattle.gate_model.specs.declared.phase.Phase.TheVariants as P
use Rattle.gate_model.specs.declared.refusal.Refusal.{Refusal}
use Rattle.gate_model.specs.declared.refusal.Refusal.TheVariants as R

-- why a begin, a step, an admit and a way of an arm of the gate are refused; none where they are accepted
abbrev pub begin_refusal : Phase → ℕ → Option Refusal
begin_refusal P.I visits = if nat_lt visits visit_limit then None else Some R.Worn
begin_refusal p visits = Some R.Busy

abbrev pub step_refusal : Phase → Option Refusal
step_refusal P.I = Some R.Idle
step_refusal P.F = Some R.Inside
step_refusal p = None

abbrev pub admit_refusal : Phase → Bool → Option Refusal
admit_refusal P.F out = if out then Some R.Taken else None
admit_refusal p out = Some R.Elsewhere

abbrev pub way_refusal : Phase → Option Refusal
way_refusal P.W = None
way_refusal p = Some R.Elsewhere

-- new where nothing was refused, else old
abbrev pub unless : {X : Type 0} → Option Refusal → X → X → X
unless None new old = new
unless (Some r) new old = old

-- the answer of a call: x where it is accepted, else its refusal
abbrev pub answered : {X : Type 0} → Option Refusal → X → Result X Refusal
answered None x = Ok x
answered (Some r) x = Err r

module _ {At : Type 0} where
  -- why a call of arm i is refused: first that the gate has no such arm, then what more says
  abbrev pub for_arm : State At → ℕ → Option Refusal → Option Refusal
  for_arm s i more = if is_arm s i then more else Some R.NoArm

  -- the record a with position p, v visits begun, and mark o, which tells whether its pass is out
  abbrev pub with_visit : At → ℕ → Bool → Arm At → Arm At
  with_visit p v o a = record a { position = p; visits = v; out = o }

  -- whether one of the first n arms has side t
  abbrev pub some_side : ℕ → List (Arm At) → ℕ → Bool
  some_side t arms n = list_any (λ a. has_side t a.side) (take n arms)

  -- whether the group differs from a side, or no arm has the other side
  abbrev pub free_for : State At → ℕ → Bool
  free_for s side = not (bit_of s == side) || not (some_side (1 - side) s.arms s.n)

module _ {At : Type 0} (door : Table At) where
  -- whether a pass, named by gate number and arm, is of this gate, and the arm's pass is out
  abbrev pub knows : State At → ℕ → ℕ → Bool
  knows s gate i = gate == s.number && (is_arm s i && (arm_at door s i).out)

  -- why a call is refused; none where it is accepted
  abbrev pub refusal_of : State At → Call → Option Refusal
  refusal_of s (begin i) = for_arm s i (begin_refusal (phase_at door s i) (arm_at door s i).visits)
  refusal_of s (step i) = for_arm s i (step_refusal (phase_at door s i))
  refusal_of s (admit i) = for_arm s i (admit_refusal (phase_at door s i) (arm_at door s i).out)
  refusal_of s (confirm gate i) = None
  refusal_of s (leave gate i) = if knows s gate i then None else Some R.StrangePass
  refusal_of s (look i) = for_arm s i None
  refusal_of s (tally w b) = for_arm s w (for_arm s b None)
  refusal_of s (way i) = for_arm s i (way_refusal (phase_at door s i))

  -- the access that a step of arm i makes
  abbrev pub access_at : State At → ℕ → Access
  access_at s i = door.access i (side_of (arm_at door s i).side) (arm_at door s i).position

  -- the record of arm i after its step, but for its row and notes
  abbrev pub arm_after : State At → ℕ → Arm At
  arm_after s i = advanced door s.n (value_read s.regs (access_at s i)) (arm_at door s i)

  -- the state after an accepted step of arm i: its access is made, its record has the next position, rows and notes follow, and
  -- a turn of the bit is counted
  abbrev pub stepped : ℕ → State At → State At
  stepped i s =
      record s {
        memory = memory_after s.memory (access_at s i);
        regs = regs_after s.high s.regs (access_at s i);
        arms = tallied door (i - 1) (phase_at door s i) (door.phase (arm_after s i).position) (slice_set s.arms (i - 1) (arm_after s i));
        turns = s.turns + (if turns_bit s.high s.regs (access_at s i) then 1 else 0);
      }

  -- the state after an accepted call
  abbrev pub done : State At → Call → State At
  done s (begin i) = with_arm i (with_visit door.entry ((arm_at door s i).visits + 1) (arm_at door s i).out (arm_at door s i)) s
  done s (step i) = stepped i s
  done s (admit i) = with_arm i (with_visit (arm_at door s i).position (arm_at door s i).visits true (arm_at door s i)) s
  done s (leave gate i) = with_arm i (with_visit door.exit (arm_at door s i).visits false (arm_at door s i)) s
  done s c = s

  -- the state after a call; a refused one alters nothing
  abbrev pub after : State At → Call → State At
  after s c = unless (refusal_of s c) (done s c) s

  -- the state after a list of calls, one after another
  abbrev pub run : State At → List Call → State At
  run s [] = s
  run s (c ∷ cs) = run (after s c) cs

  -- the state after let_go: arm i is admitted and leaves at once
  abbrev pub left_at_once : State At → ℕ → State At
  left_at_once s i = unless (refusal_of s (admit i)) (after (after s (admit i)) (leave s.number i)) s

  -- what the call way tells of a waiting arm
  abbrev pub has_way : State At → ℕ → Bool
  has_way s i = free_for s (side_of (arm_at door s i).side)

  abbrev pub way_answer : State At → ℕ → Result Bool Refusal
  way_answer s i = answered (refusal_of s (way i)) (has_way s i)
