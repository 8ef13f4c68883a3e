-- A gate's state stays within its bounds, whatever its door and whatever is called.
use Rattle.std.proofs.Common.{◌≡◌, ℕ, ◌-◌, ◌≤◌, Bool, List, length, get_or, set, replicate, ◌∙◌, arith}
use Rattle.std.proofs.lemmas.List.{get_or-set_same, get_or-set_other, set_past, get_or-replicate, get_or_past, length-replicate, length-set}
use Rattle.std.proofs.lemmas.Bool.{cond_both}
use Rattle.gate_model.specs.Limits.{arm_limit, visit_limit, tally_limit}
use Rattle.gate_model.specs.Making.{Making}
use Rattle.gate_model.specs.Rules.{Always}
use Rattle.gate_model.specs.Table.{Table}
use Rattle.gate_model.specs.Arms.{fresh, no_arm}
use Rattle.gate_model.specs.Tallies.{with_row, is_waiting, counted, tallied}
use Rattle.gate_model.specs.States.{State, made, arm_at, phase_at}
use Rattle.gate_model.specs.Calls.{arm_after}
use Rattle.gate_model.specs.Law.{Origin, IsReached}
use Rattle.gate_model.specs.declared.arm.Arm.{Arm}
use Rattle.gate_model.specs.declared.call.Call.{Call}
use Rattle.gate_model.specs.declared.phase.Phase.{Phase}
use Rattle.gate_model.proofs.Always.{IsKept, always, at_origin, at_most}
use Rattle.gate_model.proofs.Effects.{Visits, begins, admits, leaves}
use Rattle.gate_model.proofs.Rooms.{arms_few}
use Rattle.gate_model.proofs.SameButRow.{tallied_table}
use Rattle.gate_model.proofs.Tables.{kept_map, tallied_holds}

-- no visit and no count of a record is above its limit
pub record BoundedArm {At : Type 0} (a : Arm At) : Type 0 where
  pub begun : a.visits ≤ visit_limit
  pub counts : (b : ℕ) → get_or a.row b 0 ≤ tally_limit

-- what holds of every place of a list holds after one is replaced
pub kept_set : {X : Type 0} (P : X → Type 0) (xs : List X) (i : ℕ) (x d : X) → ((k : ℕ) → P (get_or xs k d)) → P x → (k : ℕ) → P (get_or (set xs i x) k d)
kept_set P xs i x d all one k = grind (arith, get_or-set_same, get_or-set_other, set_past, all k)

pub kept_replicate : {X : Type 0} (P : X → Type 0) (n : ℕ) (x d : X) → P x → P d → (k : ℕ) → P (get_or (replicate n x) k d)
kept_replicate P n x d px pd k = grind (arith, get_or-replicate, get_or_past, length-replicate)

zeros : (n k : ℕ) → get_or (replicate n 0) k 0 ≤ tally_limit
zeros n k = kept_replicate (λ v. v ≤ tally_limit) n 0 0 (omega arith) (omega arith) k

row_bounded : {At : Type 0} (r : List ℕ) (t : List Bool) (a : Arm At) → ((b : ℕ) → get_or r b 0 ≤ tally_limit) → BoundedArm a → BoundedArm (with_row r t a)
row_bounded r t a h all = record { begun = all.begun; counts = h }

module _ {At : Type 0} (door : Table At) where
  -- every record of a table is within its limits
  abbrev EachBounded : List (Arm At) → Type 0
  EachBounded arms = (k : ℕ) → BoundedArm (get_or arms k (no_arm door))

  -- at most as many arms as a gate may have, a record for each that there may be, and each within its limits
  pub record Bounded (s : State At) : Type 0 where
    pub few : s.n ≤ arm_limit
    pub full : length s.arms ≡ arm_limit
    pub each : EachBounded s.arms

  no_arm_bounded : BoundedArm (no_arm door)
  no_arm_bounded = record { begun = omega arith; counts = λ b. omega arith }

  -- rows
  counted_bounded : (b : ℕ) (a : Arm At) → BoundedArm a → BoundedArm (counted door b a)
  counted_bounded b a h =
      cond_both (is_waiting door a) _ _ BoundedArm
      (λ _. row_bounded _ a.notes a (kept_set (λ v. v ≤ tally_limit) a.row b _ 0 h.counts (omega arith)) h)
      (λ _. h)

  tallied_bounded : (k : ℕ) (p q : Phase) (arms : List (Arm At)) → EachBounded arms → EachBounded (tallied door k p q arms)
  tallied_bounded k p q arms h j =
      tallied_holds door (λ rs. BoundedArm (get_or rs j (no_arm door))) k p q arms (h j)
      (kept_set BoundedArm arms k _ (no_arm door) h (row_bounded _ _ (get_or arms k (no_arm door)) (zeros arm_limit) (h k)) j)
      (kept_map (λ new old. BoundedArm old → BoundedArm new) (counted door k) (no_arm door) (λ x. x) (counted_bounded k) arms j (h j))

  -- calls
  visit_bounded : (s : State At) (c : Call) (i : ℕ) (r : Arm At) → Visits door s c i r → BoundedArm (arm_at door s i) → BoundedArm r
  visit_bounded s c i r (begins _ below) h = record { begun = omega arith; counts = h.counts }
  visit_bounded s c i r (admits _) h = record { begun = h.begun; counts = h.counts }
  visit_bounded s c i r (leaves _ _) h = record { begun = h.begun; counts = h.counts }

  bounds_kept : IsKept door Bounded
  bounds_kept = record {
    visited = λ s c i r _ x h.
        record { few = h.few; full = length-set s.arms (i - 1) r ∙ h.full; each = kept_set BoundedArm s.arms (i - 1) r (no_arm door) h.each (visit_bounded s c i r x (h.each (i - 1))) };
    stepped_so = λ s i _ h.
        let a : Arm At = arm_after door s i in
        let arms = set s.arms (i - 1) a in
        let p = phase_at door s i in
        let q = door.phase a.position in
        record {
          few = h.few;
          full = (tallied_table door (i - 1) p q arms).1 ∙ (length-set s.arms (i - 1) a ∙ h.full);
          each = tallied_bounded (i - 1) p q arms (kept_set BoundedArm s.arms (i - 1) a (no_arm door) h.each (record { begun = (h.each (i - 1)).begun; counts = (h.each (i - 1)).counts }));
        };
  }

  made_bounded : (making : Making) → Bounded (made door making)
  made_bounded making = record {
    few = arms_few door making.high (length making.regs) making.wanted;
    full = length-replicate arm_limit (fresh door);
    each = kept_replicate BoundedArm arm_limit (fresh door) (no_arm door) (record { begun = omega arith; counts = zeros arm_limit }) no_arm_bounded;
  }

  pub bounded : Always door (λ start past s. Bounded s)
  bounded = always door Bounded bounds_kept made_bounded

  pub bounded_at : (s : State At) → Origin door s → Bounded s
  bounded_at = at_origin door Bounded bounded

  -- every arm of a gate has a record
  pub all_there : (s : State At) → Origin door s → s.n ≤ length s.arms
  all_there s p = let h = bounded_at s p in omega (arith, h.few, h.full)

  pub each_there : (s : State At) → IsReached door s → s.n ≤ length s.arms
  each_there s = at_most door s.n (length s.arms) (all_there s)
