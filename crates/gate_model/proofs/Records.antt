-- What a call makes of the record of an arm.
use Rattle.std.proofs.Common.{◌≡◌, ℕ, ◌-◌, ◌≤◌, Bool, true, not, ◌&&◌, ◌||◌, T, ◌≢◌, length, set, None, sym, refl, ap, subst, ⊎_elim, arith}
use Rattle.std.proofs.lemmas.Bool.{cases_eq}
use Rattle.std.proofs.lemmas.Bool.Decides.{nat_tests}
use Rattle.std.proofs.lemmas.List.{get_or-set_same, get_or-set_other}
use Rattle.gate_model.specs.Arms.{no_arm}
use Rattle.gate_model.specs.Calls.{refusal_of, arm_after, stepped, after}
use Rattle.gate_model.specs.History.{accepted, is_in, begin_of, move_of}
use Rattle.gate_model.specs.States.{State, arm_at, phase_at, with_arm}
use Rattle.gate_model.specs.Table.{Table}
use Rattle.gate_model.specs.declared.arm.Arm.{Arm}
use Rattle.gate_model.specs.declared.call.Call.{Call}
use Rattle.gate_model.specs.declared.call.Call.TheVariants.{Step}
use Rattle.gate_model.specs.declared.phase.Phase.TheVariants as P
use Rattle.gate_model.proofs.Effects.{Known, Visits, begins, admits, leaves, Does, nothing, visits, steps, does}
use Rattle.gate_model.proofs.SameButRow.{SameButRow, tallied_table}

module _ {At : Type 0} (door : Table At) (s : State At) where
  -- a is the record of arm v after a call, which is accepted or not
  pub data Became (v : ℕ) : Call → Bool → Arm At → Type 0 where
    stays : {c : Call} {ok : Bool} {a : Arm At} → T (not (ok && (begin_of v c || move_of v c))) → SameButRow a (arm_at door s v) → Became v c ok a
    visited : {c : Call} {a : Arm At} → Visits door s c v a → Became v c true a
    moved_on : {a : Arm At} → refusal_of door s (Step v) ≡ None → T (not (is_in door P.I s v) && not (is_in door P.F s v)) → SameButRow a (arm_after door s v) → Became v (Step v) true a

  other_arm : (c : Call) (i v : ℕ) (r : Arm At) → Visits door s c i r → i ≢ v → T (not (begin_of v c || move_of v c))
  other_arm c i v r (begins _ _) ne = grind (arith, nat_tests)
  other_arm c i v r (admits _) ne = grind (arith, nat_tests)
  other_arm c i v r (leaves _ _) ne = grind (arith, nat_tests)

  module _ (full : s.n ≤ length s.arms) where
    own_record : (i : ℕ) (r : Arm At) → Known door s i → arm_at door (with_arm i r s) i ≡ r
    own_record i r known = get_or-set_same s.arms (i - 1) r (no_arm door) (let x = known.0 in let y = known.1 in omega arith)

    other_record : (i v : ℕ) (r : Arm At) → 1 ≤ i → 1 ≤ v → i ≢ v → arm_at door (with_arm i r s) v ≡ arm_at door s v
    other_record i v r lo vlo ne = get_or-set_other s.arms (i - 1) (v - 1) r (no_arm door) (λ e. ne (omega (arith, e)))

    -- the tally of a step changes no more than rows and notes
    step_seen : (i v : ℕ) → SameButRow (arm_at door (stepped door i s) v) (arm_at door (with_arm i (arm_after door s i) s) v)
    step_seen i v = (tallied_table door (i - 1) (phase_at door s i) (door.phase (arm_after door s i).position) (set s.arms (i - 1) (arm_after door s i))).0 (v - 1)

    became : (v : ℕ) → 1 ≤ v → (c : Call) (ok : Bool) (t : State At) → Does door s c ok t → Became v c ok (arm_at door t v)
    became v lo c ok t (nothing idles) = stays (idles v) (refl, refl, refl, refl)
    became v lo c ok t (visits {i = i} {r = r} known x) = ⊎_elim
        (λ q. subst (Became v c true) (sym (subst (λ k. arm_at door (with_arm i r s) k ≡ r) q (own_record i r known))) (visited (subst (λ k. Visits door s c k r) q x)))
        (λ ne. stays (other_arm c i v r x ne) (let e = other_record i v r known.0 lo ne in (ap (λ a. a.position) e, ap (λ a. a.side) e, ap (λ a. a.out) e, ap (λ a. a.visits) e)))
        (cases_eq i v)
    became v lo c ok t (steps {i = i} known none may) = ⊎_elim
        (λ q. subst (λ k. Became k (Step i) true (arm_at door (stepped door i s) k)) q (moved_on none may (subst (SameButRow (arm_at door (stepped door i s) i)) (own_record i (arm_after door s i) known) (step_seen i i))))
        (λ ne. stays (grind (arith, nat_tests)) (subst (SameButRow (arm_at door (stepped door i s) v)) (other_record i v (arm_after door s i) known.0 lo ne) (step_seen i v)))
        (cases_eq i v)

    pub became_by : (v : ℕ) → 1 ≤ v → (c : Call) → Became v c (accepted door s c) (arm_at door (after door s c) v)
    became_by v lo c = became v lo c _ _ (does door s c)
