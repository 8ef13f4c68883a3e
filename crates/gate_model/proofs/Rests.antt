-- The records past the last arm of a gate stay idle.
use Rattle.std.proofs.Common.{◌≡◌, ℕ, ◌-◌, ◌≤◌, T, List, get_or, set, sym, ap, ◌∙◌, subst, arith}
use Rattle.std.proofs.lemmas.List.{get_or-set_other}
use Rattle.gate_model.specs.Arms.{fresh, no_arm}
use Rattle.gate_model.specs.Law.{Origin, IsReached}
use Rattle.gate_model.specs.Limits.{arm_limit}
use Rattle.gate_model.specs.Phases.{same_phase}
use Rattle.gate_model.specs.Rules.{Phased}
use Rattle.gate_model.specs.States.{State}
use Rattle.gate_model.specs.Table.{Table}
use Rattle.gate_model.specs.declared.arm.Arm.{Arm}
use Rattle.gate_model.specs.declared.phase.Phase.{Phase}
use Rattle.gate_model.specs.declared.phase.Phase.TheVariants as P
use Rattle.gate_model.proofs.Always.{IsKept, always, at_origin, true_at}
use Rattle.gate_model.proofs.Bounds.{kept_replicate}
use Rattle.gate_model.proofs.Meant.{phase_path}
use Rattle.gate_model.proofs.SameButRow.{tallied_table}

module _ {At : Type 0} (door : Table At) (phased : Phased door) where
  abbrev phase_of : List (Arm At) → ℕ → Phase
  phase_of arms k = door.phase (get_or arms k (no_arm door)).position

  abbrev Rest : ℕ → List (Arm At) → Type 0
  Rest n arms = (k : ℕ) → n ≤ k → phase_of arms k ≡ P.I

  set_rest : (n i : ℕ) (arms : List (Arm At)) (r : Arm At) → 1 ≤ i → i ≤ n → Rest n arms → Rest n (set arms (i - 1) r)
  set_rest n i arms r lo hi h k past = ap (λ a. door.phase a.position) (get_or-set_other arms (i - 1) k r (no_arm door) (omega arith)) ∙ h k past

  rest_kept : IsKept door (λ s. Rest s.n s.arms)
  rest_kept = record {
    visited = λ s c i r known _ h. set_rest s.n i s.arms r known.0 known.1 h;
    stepped_so = λ s i known h k past. ap door.phase ((tallied_table door _ _ _ _).0 k).0 ∙ set_rest s.n i s.arms _ known.0 known.1 h k past;
  }

  rest_from : (s : State At) → Origin door s → Rest s.n s.arms
  rest_from = at_origin door (λ s. Rest s.n s.arms)
      (always door (λ s. Rest s.n s.arms) rest_kept (λ making k _. kept_replicate (λ a. door.phase a.position ≡ P.I) arm_limit (fresh door) (no_arm door) phased.idle phased.idle k))

  pub rest : (s : State At) → IsReached door s → (k : ℕ) → s.n ≤ k → phase_of s.arms k ≡ P.I
  rest s reached k past = phase_path (phase_of s.arms k) P.I (true_at door (same_phase (phase_of s.arms k) P.I) (λ p. subst (λ z. T (same_phase z P.I)) (sym (rest_from s p k past)) tt) reached)

  -- also once a record of the gate's arms is replaced
  pub rest_set : (s : State At) → IsReached door s → (i : ℕ) (r : Arm At) → 1 ≤ i → i ≤ s.n → (k : ℕ) → s.n ≤ k → phase_of (set s.arms (i - 1) r) k ≡ P.I
  rest_set s reached i r lo hi = set_rest s.n i s.arms r lo hi (rest s reached)
