-- What follows from the records that a call has read.
use Rattle.std.proofs.Common.{◌≡◌, ℕ, ◌-◌, ◌≤◌, false, not, ◌&&◌, T, get_or, Some, None, Option, Ok, Result, OnOk, refl, arith}
use Rattle.std.proofs.lemmas.Bool.Decides.{nat_tests}
use Rattle.gate_model.specs.Calls.{refusal_of, answered}
use Rattle.gate_model.specs.Indexes.{IndexFits, ShowsIndexes}
use Rattle.gate_model.specs.Law.{IsReached}
use Rattle.gate_model.specs.Phases.{same_phase}
use Rattle.gate_model.specs.Table.{Table}
use Rattle.gate_model.specs.States.{State, is_arm, arm_at}
use Rattle.gate_model.specs.declared.arm.Arm.{Arm}
use Rattle.gate_model.specs.declared.call.Call.TheVariants.{Look as look, Step as step}
use Rattle.gate_model.specs.declared.phase.Phase.{Phase}
use Rattle.gate_model.specs.declared.phase.Phase.TheVariants as P
use Rattle.gate_model.specs.declared.refusal.Refusal.{Refusal}
use Rattle.gate_model.proofs.Indexes.{index_fits}
use Rattle.gate.specs.Answers.{record_for, tally_answer}

pub tally_told : {At : Type 0} (door : Table At) (s : State At) (w b : ℕ) (one other : Result (Arm At) Refusal) (r q : Arm At)
    → one ≡ record_for door s (look w) w → one ≡ Ok r → other ≡ record_for door s (look b) b → other ≡ Ok q
    → Ok (record { count = get_or r.row (b - 1) 0; idle = get_or r.notes (b - 1) false }) ≡ tally_answer door s w b
tally_told door s w b one other r q is ok is_other ok_other = grind arith

-- an arm whose record was read may step where its phase is neither idle nor inside
pub may_move : {At : Type 0} (door : Table At) (s : State At) (i : ℕ) (p : Phase) (one : Result (Arm At) Refusal) (r : Arm At)
    → one ≡ record_for door s (look i) i → one ≡ Ok r → p ≡ door.phase r.position → T (not (same_phase p P.I) && not (same_phase p P.F))
    → (1 ≤ i) × ((i ≤ s.n) × ((refusal_of door s (step i) ≡ None) × ((r.position ≡ (arm_at door s i).position) × (p ≡ door.phase r.position))))
may_move door s i p one r is ok e moves = grind (arith, nat_tests)

-- what holds wherever nothing is refused holds of an answer that is accepted
pub answered_ok : {X : Type 0} (r : Option Refusal) (x : X) (P : Type 0) → (r ≡ None → P) → OnOk (answered r x) P
answered_ok None x P h = h refl
answered_ok (Some r) x P h = tt

-- the index of an arm whose record was read
pub index_told : {At : Type 0} (door : Table At) → ShowsIndexes door → (s : State At) → IsReached door s → (i : ℕ) (one : Result (Arm At) Refusal) (r : Arm At) (p : Phase) (j : ℕ)
    → one ≡ record_for door s (look i) i → one ≡ Ok r → p ≡ door.phase r.position → j ≡ door.index r.position → IndexFits s.n p j
index_told door shown s reached i one r p j is ok ep ej =
    let own : T (is_arm s i) × (r ≡ arm_at door s i) = (grind arith, grind arith) in
    rw (ep, ej, own.1) (index_fits door shown s reached i own.0)
