-- The index of an arm of any gate that calls lead to.
use Rattle.std.proofs.Common.{◌≡◌, ℕ, ◌≤◌, ◌&&◌, T, eqb, leb, ◌⊎◌, inl, inr, ⊎_elim, arith}
use Rattle.std.proofs.lemmas.Bool.Decides.{nat_tests}
use Rattle.gate_model.specs.Indexes.{IndexFits, ShowsIndexes}
use Rattle.gate_model.specs.Law.{IsReached}
use Rattle.gate_model.specs.States.{State, is_arm, arm_at, phase_at}
use Rattle.gate_model.specs.Table.{Table}
use Rattle.gate_model.specs.declared.phase.Phase.{Phase}
use Rattle.gate_model.specs.declared.phase.Phase.TheVariants as P
use Rattle.gate_model.proofs.Always.{at_origin, at_reached}
use Rattle.gate_model.proofs.Bools.{test}

-- whether an index fits is decided, so any origin will do
within : (n j : ℕ) → ((1 ≤ j) × (j ≤ n)) ⊎ ¬ ((1 ≤ j) × (j ≤ n))
within n j = ⊎_elim (λ t. inl (grind (arith, nat_tests))) (λ d. inr (λ h. let x = h.0 in let y = h.1 in grind (arith, nat_tests))) (test (leb 1 j && leb j n))

none : (j : ℕ) → (j ≡ 0) ⊎ ¬ (j ≡ 0)
none j = ⊎_elim (λ t. inl (grind (arith, nat_tests))) (λ d. inr (λ h. grind (arith, nat_tests))) (test (eqb j 0))

decided : (n : ℕ) (p : Phase) (j : ℕ) → IndexFits n p j ⊎ ¬ (IndexFits n p j)
decided n P.W j = within n j
decided n p j = none j

pub index_fits : {At : Type 0} (door : Table At) → ShowsIndexes door → (s : State At) → IsReached door s → (i : ℕ) → T (is_arm s i)
    → IndexFits s.n (phase_at door s i) (door.index (arm_at door s i).position)
index_fits door shown s reached i h =
    at_reached door (decided s.n (phase_at door s i) (door.index (arm_at door s i).position))
    (λ p. at_origin door (λ t. (i : ℕ) → T (is_arm t i) → IndexFits t.n (phase_at door t i) (door.index (arm_at door t i).position)) shown s p i h) reached
