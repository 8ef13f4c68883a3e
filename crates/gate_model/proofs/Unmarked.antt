-- Records with no pass out, and what keeps them so.
use Rattle.std.proofs.Common.{◌≡◌, ℕ, ◌-◌, true, false, List, get_or, set, None, Some, subst, sym, refl, ◌∙◌, arith}
use Rattle.std.proofs.lemmas.Bool.Decides.{nat_tests}
use Rattle.std.proofs.lemmas.List.{get_or-set_same, get_or-set_other, set_past, length-set}
use Rattle.gate_model.specs.Making.{Making}
use Rattle.gate_model.specs.Limits.{arm_limit}
use Rattle.gate_model.specs.Arms.{fresh, no_arm}
use Rattle.gate_model.specs.Calls.{refusal_of, knows, unless, with_visit, arm_after, stepped, done, after}
use Rattle.gate_model.specs.States.{State, made, arm_at, phase_at, with_arm}
use Rattle.gate_model.specs.Table.{Table}
use Rattle.gate_model.specs.declared.arm.Arm.{Arm}
use Rattle.gate_model.specs.declared.call.Call.TheVariants.{Begin, Step, Admit, Leave}
use Rattle.gate_model.specs.declared.refusal.Refusal.TheVariants as R
use Rattle.gate_model.proofs.Accepted.{unless_both}
use Rattle.gate_model.proofs.Bools.{by}
use Rattle.gate_model.proofs.Bounds.{kept_replicate}
use Rattle.gate_model.proofs.SameButRow.{tallied_table}

module _ {At : Type 0} (door : Table At) where
  -- every record at its place in the table
  abbrev pub Unmarked : List (Arm At) → Type 0
  Unmarked arms = (i : ℕ) → (get_or arms (i - 1) (no_arm door)).out ≡ false

  set_unmarked : (arms : List (Arm At)) (j : ℕ) (a : Arm At) → a.out ≡ false → Unmarked arms → Unmarked (set arms j a)
  set_unmarked arms j a h u i = let x = u i in grind (arith, get_or-set_same, get_or-set_other, set_past)

  set_twice : (arms : List (Arm At)) (j : ℕ) (a b : Arm At) → b.out ≡ false → Unmarked arms → Unmarked (set (set arms j a) j b)
  set_twice arms j a b h u i = let x = u i in grind (arith, get_or-set_same, get_or-set_other, set_past, length-set)

  still_unmarked : (arms : List (Arm At)) (j : ℕ) (a : Arm At) → (get_or (set arms j a) j (no_arm door)).out ≡ false → Unmarked arms → Unmarked (set arms j a)
  still_unmarked arms j a h u i = let x = u i in grind (arith, get_or-set_other)

  -- a begin and a step keep them so
  pub unmarked_begun : (s : State At) (i : ℕ) → Unmarked s.arms → Unmarked (after door s (Begin i)).arms
  unmarked_begun s i u = unless_both (refusal_of door s (Begin i)) _ s (λ t. Unmarked t.arms) (λ _. set_unmarked s.arms (i - 1) _ (u i) u) u

  stepped_so : (s : State At) (i : ℕ) → Unmarked s.arms → Unmarked (stepped door i s).arms
  stepped_so s i u k =
      ((tallied_table door (i - 1) (phase_at door s i) (door.phase (arm_after door s i).position) (set s.arms (i - 1) (arm_after door s i))).0 (k - 1)).2
      ∙ set_unmarked s.arms (i - 1) (arm_after door s i) (u i) u k

  pub unmarked_stepped : (s : State At) (i : ℕ) → Unmarked s.arms → Unmarked (after door s (Step i)).arms
  unmarked_stepped s i u = unless_both (refusal_of door s (Step i)) (stepped door i s) s (λ t. Unmarked t.arms) (λ _. stepped_so s i u) u

  -- an arm is admitted, and leaves with its pass
  pub unmarked_left : (s : State At) (i : ℕ) → refusal_of door s (Admit i) ≡ None → Unmarked s.arms → Unmarked (after door (after door s (Admit i)) (Leave s.number i)).arms
  unmarked_left s i may u =
      let marked = with_visit (arm_at door s i).position (arm_at door s i).visits true (arm_at door s i) in
      let t = with_arm i marked s in
      subst (λ r. Unmarked (after door (unless r t s) (Leave s.number i)).arms) (sym may)
      (by (λ r. Unmarked (unless r (done door t (Leave s.number i)) t).arms) (knows door t s.number i) None (Some R.StrangePass)
      (λ _. set_twice s.arms (i - 1) marked _ refl u)
      (λ n. still_unmarked s.arms (i - 1) marked (let z = may in grind (arith, nat_tests)) u))

  pub unmarked_made : (making : Making) → Unmarked (made door making).arms
  unmarked_made making i = kept_replicate (λ a. a.out ≡ false) arm_limit (fresh door) (no_arm door) refl refl (i - 1)
