-- A pass is out only of an arm that is inside.
use Rattle.std.proofs.Common.{ℕ, ◌-◌, Bool, not, ◌&&◌, T, List, get_or, set, sym, subst, arith}
use Rattle.gate_model.specs.Arms.{fresh, no_arm}
use Rattle.gate_model.specs.Calls.{arm_after}
use Rattle.gate_model.specs.History.{is_in}
use Rattle.gate_model.specs.Law.{Origin}
use Rattle.gate_model.specs.Limits.{arm_limit}
use Rattle.gate_model.specs.Phases.{same_phase}
use Rattle.gate_model.specs.Rules.{Always}
use Rattle.gate_model.specs.States.{State, made, arm_at}
use Rattle.gate_model.specs.Table.{Table}
use Rattle.gate_model.specs.Tallies.{tallied}
use Rattle.gate_model.specs.declared.arm.Arm.{Arm}
use Rattle.gate_model.specs.declared.call.Call.{Call}
use Rattle.gate_model.specs.declared.phase.Phase.{Phase}
use Rattle.gate_model.specs.declared.phase.Phase.TheVariants as P
use Rattle.gate_model.proofs.Always.{run_holds, at_origin}
use Rattle.gate_model.proofs.Bounds.{kept_set, kept_replicate}
use Rattle.gate_model.proofs.Effects.{Visits, begins, admits, leaves, Does, nothing, visits, steps, does}
use Rattle.gate_model.proofs.SameButRow.{tallied_table}

module _ {At : Type 0} (door : Table At) where
  -- the pass of a record is not out, or its arm is inside
  abbrev OutInside : Arm At → Type 0
  OutInside a = T a.out → T (same_phase (door.phase a.position) P.F)

  abbrev EachInside : List (Arm At) → Type 0
  EachInside arms = (k : ℕ) → OutInside (get_or arms k (no_arm door))

  visit_inside : (s : State At) (c : Call) (i : ℕ) (r : Arm At) → Visits door s c i r → OutInside (arm_at door s i) → OutInside r
  visit_inside s c i r (begins idle _) h = λ out. let f = h out in absurd (grind arith)
  visit_inside s c i r (admits inside) h = λ _. grind arith
  visit_inside s c i r (leaves _ _) h = λ out. absurd out

  -- an arm that steps is not inside, so that its pass is not out
  step_inside : (s : State At) (i : ℕ) → T (not (is_in door P.I s i) && not (is_in door P.F s i)) → OutInside (arm_at door s i) → OutInside (arm_after door s i)
  step_inside s i moving h = λ out. let f = h out in absurd (grind arith)

  tallied_inside : (k : ℕ) (p q : Phase) (arms : List (Arm At)) → EachInside arms → EachInside (tallied door k p q arms)
  tallied_inside k p q arms h j = let seen = (tallied_table door k p q arms).0 j in λ out. subst (λ x. T (same_phase (door.phase x) P.F)) (sym seen.0) (h j (subst T seen.2 out))

  call_inside : (s : State At) (c : Call) (ok : Bool) (t : State At) → Does door s c ok t → EachInside s.arms → EachInside t.arms
  call_inside s c ok t (nothing _) h = h
  call_inside s c ok t (visits {i = i} {r = r} _ x) h = kept_set OutInside s.arms (i - 1) r (no_arm door) h (visit_inside s c i r x (h (i - 1)))
  call_inside s c ok t (steps {i = i} _ _ moving) h =
      tallied_inside (i - 1) _ _ (set s.arms (i - 1) (arm_after door s i)) (kept_set OutInside s.arms (i - 1) (arm_after door s i) (no_arm door) h (step_inside s i moving (h (i - 1))))

  inside_always : Always door (λ start past s. EachInside s.arms)
  inside_always making past =
      run_holds door (λ s. EachInside s.arms) (λ s c. call_inside s c _ _ (does door s c)) past (made door making)
      (kept_replicate OutInside arm_limit (fresh door) (no_arm door) (λ out. absurd out) (λ out. absurd out))

  pub pass_inside : (s : State At) → Origin door s → (i : ℕ) → T (arm_at door s i).out → T (is_in door P.F s i)
  pass_inside s origin i = at_origin door (λ s. EachInside s.arms) inside_always s origin (i - 1)
