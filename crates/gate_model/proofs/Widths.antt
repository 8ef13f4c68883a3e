-- Each record's row and notes have a place for each arm that there may be, whatever is called.
use Rattle.std.proofs.Common.{◌≡◌, ℕ, ◌-◌, ◌<◌, false, List, length, map, get_or, set, sym, ◌∙◌, subst, ⊎_elim, arith}
use Rattle.std.proofs.lemmas.Bool.{cases_eq, cond_both}
use Rattle.std.proofs.lemmas.List.{get_or-set_same, get_or-set_other, get_or-map, get_or-replicate, length-map, length-replicate, length-set}
use Rattle.gate_model.specs.Arms.{fresh, no_arm}
use Rattle.gate_model.specs.Calls.{arm_after}
use Rattle.gate_model.specs.Law.{IsReached}
use Rattle.gate_model.specs.Limits.{arm_limit}
use Rattle.gate_model.specs.Making.{Making}
use Rattle.gate_model.specs.Rules.{Always}
use Rattle.gate_model.specs.States.{State, made, arm_at, phase_at}
use Rattle.gate_model.specs.Table.{Table}
use Rattle.gate_model.specs.Tallies.{is_idle, is_waiting, counted, tallied}
use Rattle.gate_model.specs.declared.arm.Arm.{Arm}
use Rattle.gate_model.specs.declared.call.Call.{Call}
use Rattle.gate_model.specs.declared.phase.Phase.{Phase}
use Rattle.gate_model.proofs.Always.{IsKept, always, at_origin, same_at}
use Rattle.gate_model.proofs.Effects.{Visits, begins, admits, leaves}
use Rattle.gate_model.proofs.Tables.{tallied_holds}

-- the row and the notes of a record have a place for each arm that there may be
pub record Wide {At : Type 0} (a : Arm At) : Type 0 where
  pub row : length a.row ≡ arm_limit
  pub notes : length a.notes ≡ arm_limit

module _ {At : Type 0} (door : Table At) where
  -- a record for each arm that there may be, and each of them wide
  record WideTable (arms : List (Arm At)) : Type 0 where
    full : length arms ≡ arm_limit
    each : (k : ℕ) → k < arm_limit → Wide (get_or arms k (no_arm door))

  -- a table with one record replaced
  set_wide : (arms : List (Arm At)) (j : ℕ) (a : Arm At) → WideTable arms → (j < arm_limit → Wide a) → WideTable (set arms j a)
  set_wide arms j a h one = record {
    full = length-set arms j a ∙ h.full;
    each = λ k below.
        ⊎_elim
        (λ e. let here : j < arm_limit = omega (arith, e, below) in
        subst (λ i. Wide (get_or (set arms j a) i (no_arm door))) (sym e) (subst Wide (sym (get_or-set_same arms j a (no_arm door) (omega (arith, here, h.full)))) (one here)))
        (λ other. subst Wide (sym (get_or-set_other arms j k a (no_arm door) other)) (h.each k below))
        (cases_eq k j);
  }

  counted_wide : (b : ℕ) (a : Arm At) → Wide a → Wide (counted door b a)
  counted_wide b a h = cond_both (is_waiting door a) _ a Wide (λ _. record { row = length-set a.row b _ ∙ h.row; notes = h.notes }) (λ _. h)

  all_counted : (b : ℕ) (arms : List (Arm At)) → WideTable arms → WideTable (map (counted door b) arms)
  all_counted b arms h = record {
    full = length-map arms (counted door b) ∙ h.full;
    each = λ k below. subst Wide (sym (get_or-map (counted door b) arms k (no_arm door) (no_arm door) (omega (arith, below, h.full)))) (counted_wide b _ (h.each k below));
  }

  tallied_wide : (k : ℕ) (p q : Phase) (arms : List (Arm At)) → WideTable arms → WideTable (tallied door k p q arms)
  tallied_wide k p q arms h =
      tallied_holds door WideTable k p q arms h
      (set_wide arms k _ h (λ _. record { row = length-replicate {A = ℕ} arm_limit 0; notes = length-map arms (is_idle door) ∙ h.full }))
      (all_counted k arms h)

  -- calls
  visit_wide : (s : State At) (c : Call) (i : ℕ) (r : Arm At) → Visits door s c i r → Wide (arm_at door s i) → Wide r
  visit_wide s c i r (begins _ _) h = record { row = h.row; notes = h.notes }
  visit_wide s c i r (admits _) h = record { row = h.row; notes = h.notes }
  visit_wide s c i r (leaves _ _) h = record { row = h.row; notes = h.notes }

  wide_kept : IsKept door (λ s. WideTable s.arms)
  wide_kept = record {
    visited = λ s c i r _ x h. set_wide s.arms (i - 1) r h (λ below. visit_wide s c i r x (h.each (i - 1) below));
    stepped_so = λ s i _ h.
        let a : Arm At = arm_after door s i in
        tallied_wide (i - 1) (phase_at door s i) (door.phase a.position) (set s.arms (i - 1) a)
        (set_wide s.arms (i - 1) a h (λ below. record { row = (h.each (i - 1) below).row; notes = (h.each (i - 1) below).notes }));
  }

  made_wide : (making : Making) → WideTable (made door making).arms
  made_wide making = record {
    full = length-replicate arm_limit (fresh door);
    each = λ k below. subst Wide (sym (get_or-replicate arm_limit k (fresh door) (no_arm door) below)) (record { row = length-replicate {A = ℕ} arm_limit 0; notes = length-replicate arm_limit false });
  }

  wide : Always door (λ start past s. WideTable s.arms)
  wide = always door (λ s. WideTable s.arms) wide_kept made_wide

  pub wide_at : (s : State At) → IsReached door s → (k : ℕ) → k < arm_limit → Wide (get_or s.arms k (no_arm door))
  wide_at s reached k below = record {
    row = same_at door _ arm_limit (λ o. ((at_origin door (λ t. WideTable t.arms) wide s o).each k below).row) reached;
    notes = same_at door _ arm_limit (λ o. ((at_origin door (λ t. WideTable t.arms) wide s o).each k below).notes) reached;
  }
