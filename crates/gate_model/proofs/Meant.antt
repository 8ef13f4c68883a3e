-- What the meaning of a gate says of it: the phase of an arm, and by the rules what a call changes.
use Rattle.std.proofs.Common.{◌≡◌, ℕ, zero, suc, ◌-◌, ◌≤◌, Bool, true, T, get_or, replicate, Option, refl, ap, arith}
use Rattle.gate_model.specs.Arms.{fresh, no_arm}
use Rattle.gate_model.specs.Calls.{after}
use Rattle.gate_model.specs.History.{is_in}
use Rattle.gate_model.specs.Law.{Origin}
use Rattle.gate_model.specs.Limits.{arm_limit}
use Rattle.gate_model.specs.Making.{Making}
use Rattle.gate_model.specs.Meaning.{resting, phase, at, stage_of, meaning_of, arm_of}
use Rattle.gate_model.specs.Phases.{same_phase}
use Rattle.gate_model.specs.Rules.{Phased, Keeps, ShowsRules}
use Rattle.gate_model.specs.States.{State, made, is_arm, arm_at, phase_at}
use Rattle.gate_model.specs.Table.{Table}
use Rattle.gate_model.specs.declared.call.Call.{Call}
use Rattle.gate_model.specs.declared.phase.Phase.{Phase}
use Rattle.gate_model.specs.declared.phase.Phase.TheVariants as P
use Rattle.gate_model.proofs.Accepted.{arm_is}
use Rattle.gate_model.proofs.Always.{at_origin}
use Rattle.gate_model.proofs.Bools.{by, is_true}
use Rattle.gate_model.proofs.Changes.{Change, change_of}

phase_stage : (p : Phase) (gone : Bool) (o : Option ℕ) → phase (stage_of p gone o) ≡ p
phase_stage p gone o = grind arith

pub two_phases : (a p q : Phase) → (T (same_phase p q) → ⊥) → T (same_phase a p) → T (same_phase a q) → ⊥
two_phases a p q d x y = grind arith

pub phase_path : (p q : Phase) → T (same_phase p q) → p ≡ q
phase_path p q h = grind arith

module _ {At : Type 0} (door : Table At) where
  -- a phase in the state and in its meaning
  pub phase_meant : (s : State At) (p : Phase) (v : ℕ) → 1 ≤ v → v ≤ s.n → at p ((meaning_of door s).arms v) ≡ is_in door p s v
  phase_meant s p v lo hi =
      let t : is_arm s v ≡ true = is_true (is_arm s v) (arm_is s v lo hi) in
      rw t (ap (λ z. same_phase z p) (phase_stage (phase_at door s v) (door.turned (arm_at door s v).position) (arm_at door s v).side))

  -- what a call changes, of a state with an origin
  pub change_at : ShowsRules door → (s : State At) → Origin door s → (c : Call) → Change (meaning_of door s) (meaning_of door (after door s c)) (arm_of c)
  change_at rules s p c = change_of _ _ _ (at_origin door (λ t. (c : Call) → Keeps (meaning_of door t) (meaning_of door (after door t c)) (arm_of c)) rules s p c)

  -- at first every arm is idle
  module _ (phased : Phased door) (making : Making) where
    pub start_fresh : (k : ℕ) → phase_at door (made door making) k ≡ P.I
    start_fresh k = go arm_limit (k - 1)
      where
        go : (n j : ℕ) → door.phase (get_or (replicate n (fresh door)) j (no_arm door)).position ≡ P.I
        go zero j = phased.idle
        go (suc n) zero = phased.idle
        go (suc n) (suc j) = go n j

    pub start_rests : (k : ℕ) → (meaning_of door (made door making)).arms k ≡ resting
    start_rests k =
        let start : State At = made door making in
        by (λ x. x ≡ resting) (is_arm start k) (stage_of (phase_at door start k) (door.turned (arm_at door start k).position) (arm_at door start k).side) resting
        (λ t. ap (λ p. stage_of p (door.turned (arm_at door start k).position) (arm_at door start k).side) (start_fresh k)) (λ d. refl)
