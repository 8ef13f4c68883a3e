-- A gate with no visit begun is the gate just made.
use Rattle.std.proofs.Common.{◌≡◌, ℕ, ◌-◌, Bool, false, not, ◌&&◌, T, sym, refl, ap, ◌∙◌, subst, arith}
use Rattle.std.proofs.lemmas.Bool.Decides.{nat_tests}
use Rattle.gate_model.specs.Arms.{fresh, no_arm}
use Rattle.gate_model.specs.Calls.{after}
use Rattle.gate_model.specs.History.{accepted, begin_of}
use Rattle.gate_model.specs.Law.{Origin}
use Rattle.gate_model.specs.Limits.{arm_limit}
use Rattle.gate_model.specs.Making.{Making}
use Rattle.gate_model.specs.Rules.{Phased}
use Rattle.gate_model.specs.States.{State, made, is_arm, arm_at}
use Rattle.gate_model.specs.Table.{Table}
use Rattle.gate_model.specs.Unbegun.{Unbegun, AsMade}
use Rattle.gate_model.specs.declared.arm.Arm.{Arm}
use Rattle.gate_model.specs.declared.call.Call.{Call}
use Rattle.gate_model.proofs.Accepted.{arm_in, arm_is}
use Rattle.gate_model.proofs.Always.{run_holds}
use Rattle.gate_model.proofs.Bounds.{kept_replicate, all_there}
use Rattle.gate_model.proofs.Effects.{begins, admits, leaves, Does, nothing, visits, steps, does}
use Rattle.gate_model.proofs.Meant.{start_fresh}
use Rattle.gate_model.proofs.Origins.{origin_made, origin_after}
use Rattle.gate_model.proofs.Records.{Became, stays, visited, moved_on, became_by}
use Rattle.gate_model.proofs.Unaltered.{after_n}

module _ {At : Type 0} (door : Table At) where
  -- an arm with no visit after a call had none before it, and the call begins none
  none_before : (s : State At) (v : ℕ) (c : Call) (ok : Bool) (a : Arm At) → Became door s v c ok a → a.visits ≡ 0 → ((arm_at door s v).visits ≡ 0) × T (not (ok && begin_of v c))
  none_before s v c ok a (stays other seen) e = (sym seen.3 ∙ e, grind arith)
  none_before s v c ok a (visited (begins _ _)) e = absurd (omega (arith, e))
  none_before s v c ok a (visited (admits _)) e = (e, tt)
  none_before s v c ok a (visited (leaves _ _)) e = (e, tt)
  none_before s v c ok a (moved_on _ _ seen) e = (sym seen.3 ∙ e, tt)

  -- the call c on the gate s begins no visit
  abbrev BeginsNone : Call → State At → Type 0
  BeginsNone c s = (i : ℕ) → T (is_arm s i) → T (not (accepted door s c && begin_of i c))

  module _ (phased : Phased door) (making : Making) where
    abbrev start : State At
    start = made door making

    no_mark : (i : ℕ) → (arm_at door start i).out ≡ false
    no_mark i = kept_replicate (λ a. a.out ≡ false) arm_limit (fresh door) (no_arm door) refl refl (i - 1)

    -- on the gate just made a call that begins no visit does nothing
    does_nothing : (c : Call) (ok : Bool) (t : State At) → Does door start c ok t → ((i : ℕ) → T (is_arm start i) → T (not (ok && begin_of i c))) → t ≡ start
    does_nothing c ok t (nothing _) none = refl
    does_nothing c ok t (visits {i = i} known (begins _ _)) none = let n = none i (arm_is start i known.0 known.1) in absurd (grind (arith, nat_tests))
    does_nothing c ok t (visits {i = i} _ (admits inside)) none = let idle = start_fresh door phased making i in absurd (grind arith)
    does_nothing c ok t (visits {i = i} _ (leaves _ out)) none = absurd (subst T (no_mark i) out)
    does_nothing c ok t (steps {i = i} _ _ moving) none = let idle = start_fresh door phased making i in absurd (grind arith)

    -- calls lead to the gate, and with no visit begun it is the gate just made
    record Untouched (s : State At) : Type 0 where
      origin : Origin door s
      same : Unbegun door s → s ≡ start

    untouched_after : (s : State At) (c : Call) → Untouched s → Untouched (after door s c)
    untouched_after s c h = record {
      origin = origin_after door s c _ refl h.origin;
      same = λ u.
          let before = λ (i : ℕ) (arm : T (is_arm s i)). none_before s i c _ _ (became_by door s (all_there door s h.origin) i (arm_in s i arm).0 c)
          (u i (subst (λ n. T (is_arm (record s { n = n }) i)) (sym (after_n door s c)) arm)) in
          let e = h.same (λ i arm. (before i arm).0) in
          ap (λ t. after door t c) e ∙ does_nothing c _ _ (does door start c) (subst (BeginsNone c) e (λ i arm. (before i arm).1));
    }

pub as_made : {At : Type 0} (door : Table At) → Phased door → AsMade door
as_made door phased making past = (run_holds door (Untouched door phased making) (untouched_after door phased making) past (made door making) (record { origin = origin_made door making _ refl; same = λ u. refl })).same
