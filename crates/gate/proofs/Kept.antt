-- What each call makes of the passes that are out.
use Rattle.std.proofs.Common.{◌≡◌, ℕ, ◌-◌, ◌≤◌, Bool, true, false, not, ◌&&◌, ◌||◌, T, eqb, leb, List, length, get_or, set, None, Some, Ok, Option, Result, refl, ◌∙◌, ⊎_elim, arith}
use Rattle.std.proofs.lemmas.Bool.Decides.{nat_tests}
use Rattle.std.proofs.lemmas.List.{get_or-set_same, get_or-set_other, set_past}
use Rattle.gate_model.specs.Arms.{no_arm}
use Rattle.gate_model.specs.Calls.{refusal_of, admit_refusal, answered, unless, knows, with_visit, arm_after, done, stepped, after}
use Rattle.gate_model.specs.States.{State, is_arm, arm_at, phase_at, with_arm}
use Rattle.gate_model.specs.Table.{Table}
use Rattle.gate_model.specs.declared.arm.Arm.{Arm}
use Rattle.gate_model.specs.declared.call.Call.TheVariants.{Begin, Step, Admit, Leave}
use Rattle.gate_model.specs.declared.refusal.Refusal.{Refusal}
use Rattle.gate_model.specs.declared.refusal.Refusal.TheVariants as R
use Rattle.gate_model.proofs.Accepted.{unless_both, known_arm, arm_is}
use Rattle.gate_model.proofs.Bools.{by, test}
use Rattle.gate_model.proofs.SameButRow.{tallied_table}
use Rattle.gate.specs.Answers.{admit_answer}
use Rattle.gate.specs.Passes.{passes_out, with_given, without}
use Rattle.gate.specs.declared.pass.Pass.{Pass}

-- a pass that was given is out
pub given_out : (p : Pass) (out : ℕ → ℕ → Bool) → with_given (Ok p) out p.gate p.arm ≡ true
given_out p out = grind (arith, nat_tests)

module _ {At : Type 0} (door : Table At) where
  -- a record with the same mark put in its place
  same_mark : (arms : List (Arm At)) (k j : ℕ) (a : Arm At) → a.out ≡ (get_or arms k (no_arm door)).out → (get_or (set arms k a) j (no_arm door)).out ≡ (get_or arms j (no_arm door)).out
  same_mark arms k j a e = grind (arith, get_or-set_same, get_or-set_other, set_past)

  -- the same number, arm count and marks
  marks_same : (s t : State At) → t.number ≡ s.number → t.n ≡ s.n → ((j : ℕ) → (arm_at door t j).out ≡ (arm_at door s j).out) → passes_out door t ≡ passes_out door s
  unfolding passes_out
  marks_same s t en ec em = λ i gate arm. eqb gate (en i) && ((leb 1 arm && leb arm (ec i)) && em arm i)

  pub begin_keeps : (s t : State At) (i : ℕ) → t ≡ after door s (Begin i) → passes_out door t ≡ passes_out door s
  begin_keeps s t i e = rw e (unless_both (refusal_of door s (Begin i)) (done door s (Begin i)) s (λ x. passes_out door x ≡ passes_out door s)
      (λ _. marks_same s (done door s (Begin i)) refl refl (λ j. same_mark s.arms (i - 1) (j - 1) _ refl)) refl)

  pub step_keeps : (s t : State At) (i : ℕ) → t ≡ after door s (Step i) → passes_out door t ≡ passes_out door s
  step_keeps s t i e = rw e (unless_both (refusal_of door s (Step i)) (stepped door i s) s (λ x. passes_out door x ≡ passes_out door s)
      (λ _. marks_same s (stepped door i s) refl refl (λ j. ((tallied_table door (i - 1) _ _ _).0 (j - 1)).2 ∙ same_mark s.arms (i - 1) (j - 1) (arm_after door s i) refl)) refl)

  -- the mark of an arm put or cleared
  put : (s : State At) (i : ℕ) (a : Arm At) → s.n ≤ length s.arms → a.out ≡ true → T (is_arm s i) → (gate arm : ℕ)
      → knows door (with_arm i a s) gate arm ≡ (knows door s gate arm || (eqb arm i && eqb gate s.number))
  put s i a full out is gate arm = ⊎_elim (λ y. grind (arith, nat_tests, get_or-set_same)) (λ n. grind (arith, nat_tests, get_or-set_other)) (test (eqb arm i))

  cleared : (s : State At) (i number : ℕ) (a : Arm At) → s.n ≤ length s.arms → a.out ≡ false → T (knows door s number i) → (gate arm : ℕ)
      → knows door (with_arm i a s) gate arm ≡ (knows door s gate arm && not (eqb arm i && eqb gate number))
  cleared s i number a full out known gate arm = ⊎_elim (λ y. grind (arith, nat_tests, get_or-set_same)) (λ n. grind (arith, nat_tests, get_or-set_other)) (test (eqb arm i))

  given : (s : State At) (i : ℕ) (r : Option Refusal) → s.n ≤ length s.arms → (r ≡ None → T (is_arm s i))
      → passes_out door (unless r (done door s (Admit i)) s) ≡ with_given (answered r (record { gate = s.number; arm = i; spent = false })) (passes_out door s)
  unfolding passes_out
  given s i None full is = λ j gate arm. put s i (with_visit (arm_at door s i).position (arm_at door s i).visits true (arm_at door s i)) full refl (is refl) gate arm j
  given s i (Some r) full is = refl

  pub admit_gives : (s t : State At) (i : ℕ) (answer : Result Pass Refusal) → s.n ≤ length s.arms → answer ≡ admit_answer door s i → t ≡ after door s (Admit i)
      → passes_out door t ≡ with_given answer (passes_out door s)
  admit_gives s t i answer full is e = rw (e, is) (given s i (refusal_of door s (Admit i)) full
      (λ none. let k = known_arm s i (admit_refusal (phase_at door s i) (arm_at door s i).out) none in arm_is s i k.0 k.1))

  spent : (s : State At) (p : Pass) → s.n ≤ length s.arms → T (knows door s p.gate p.arm) → passes_out door (done door s (Leave p.gate p.arm)) ≡ without p (passes_out door s)
  unfolding passes_out
  spent s p full y = λ j gate arm. cleared s p.arm p.gate (with_visit door.exit (arm_at door s p.arm).visits false (arm_at door s p.arm)) full refl y gate arm j

  kept : (s : State At) (p : Pass) → T (not (knows door s p.gate p.arm)) → passes_out door s ≡ without p (passes_out door s)
  unfolding passes_out
  kept s p n = λ j gate arm. (let strange : knows door s gate arm ≡ (knows door s gate arm && not (eqb arm p.arm && eqb gate p.gate)) = grind (arith, nat_tests) in strange) j

  pub leave_takes : (s t : State At) (p : Pass) → s.n ≤ length s.arms → t ≡ after door s (Leave p.gate p.arm) → passes_out door t ≡ without p (passes_out door s)
  leave_takes s t p full e = rw e (by (λ r. passes_out door (unless r (done door s (Leave p.gate p.arm)) s) ≡ without p (passes_out door s))
      (knows door s p.gate p.arm) None (Some R.StrangePass) (spent s p full) (kept s p))
