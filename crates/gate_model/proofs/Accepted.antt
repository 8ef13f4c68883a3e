-- What an accepted call says of its arm.
use Rattle.std.proofs.Common.{◌≡◌, ℕ, ◌<◌, ◌≤◌, Bool, true, false, cond, not, ◌&&◌, T, Some, None, Option, refl, arith}
use Rattle.std.proofs.lemmas.Bool.Decides.{nat_tests}
use Rattle.gate_model.specs.Limits.{visit_limit}
use Rattle.gate_model.specs.Phases.{same_phase}
use Rattle.gate_model.specs.States.{State, is_arm}
use Rattle.gate_model.specs.Calls.{begin_refusal, step_refusal, admit_refusal, unless}
use Rattle.gate_model.specs.History.{no_refusal}
use Rattle.gate_model.specs.declared.phase.Phase.{Phase}
use Rattle.gate_model.specs.declared.phase.Phase.TheVariants as P
use Rattle.gate_model.specs.declared.refusal.Refusal.{Refusal}
use Rattle.gate_model.specs.declared.refusal.Refusal.TheVariants as R

-- whether a call was accepted or refused
pub unless_both : {X : Type 0} (r : Option Refusal) (new old : X) (P : X → Type 0) → (r ≡ None → P new) → P old → P (unless r new old)
unless_both None new old P h g = h refl
unless_both (Some r) new old P h g = g

-- the same of a P that is told too whether the call was accepted
pub by_answer : {X : Type 0} (r : Option Refusal) (new old : X) (P : X → Bool → Type 0) → (r ≡ None → P new true) → P old false → P (unless r new old) (no_refusal r)
by_answer None new old P h g = h refl
by_answer (Some r) new old P h g = g

pub none_refused : (r : Option Refusal) → T (no_refusal r) → r ≡ None
none_refused r h = grind arith

-- it is an arm of the gate
pub for_arm_none : (b : Bool) (r : Option Refusal) → cond b r (Some R.NoArm) ≡ None → r ≡ None
for_arm_none b r e = grind arith

pub arm_in : {At : Type 0} (s : State At) (i : ℕ) → T (is_arm s i) → (1 ≤ i) × (i ≤ s.n)
arm_in s i h = grind (arith, nat_tests)

pub arm_is : {At : Type 0} (s : State At) (i : ℕ) → 1 ≤ i → i ≤ s.n → T (is_arm s i)
arm_is s i lo hi = grind (arith, nat_tests)

pub known_arm : {At : Type 0} (s : State At) (i : ℕ) (r : Option Refusal) → cond (is_arm s i) r (Some R.NoArm) ≡ None → (1 ≤ i) × (i ≤ s.n)
known_arm s i r e = grind (arith, nat_tests)

-- its phase, visits and mark are those that the call asks for
pub begin_none : (p : Phase) (v : ℕ) → begin_refusal p v ≡ None → T (same_phase p P.I) × (v < visit_limit)
begin_none p v e = grind (arith, nat_tests)

pub step_none : (p : Phase) → step_refusal p ≡ None → T (not (same_phase p P.I) && not (same_phase p P.F))
step_none p e = grind arith

pub admit_none : (p : Phase) (o : Bool) → admit_refusal p o ≡ None → T (same_phase p P.F && not o)
admit_none p o e = grind arith

pub leave_none : (b : Bool) → cond b None (Some R.StrangePass) ≡ None → T b
leave_none b e = grind arith
