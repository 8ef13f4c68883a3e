-- An arm that is not free to go has no right of way: others end their doorways, then it steps 8 n times and waits on.
use Rattle.std.proofs.Common.{◌≡◌, ℕ, zero, suc, ◌+◌, ◌*◌, ◌≤◌, Bool, cond, not, ◌&&◌, T, eqb, ◌≢◌, List, [], ◌∷◌, None, sym, refl, ap, subst, ⊎_elim, arith, eqb→eq}
use Rattle.std.proofs.lemmas.Bool.Decides.{nat_tests}
use Rattle.std.proofs.lemmas.Bool.{cases_eq}
use Rattle.gate_model.specs.States.{State}
use Rattle.gate_model.specs.Calls.{refusal_of, stepped, unless, after}
use Rattle.gate_model.specs.History.{accepted, steps, goes_inside, GoesInside, steps_in, NoOtherInDoorway, RightOfWay}
use Rattle.gate_model.specs.declared.call.Call.{Call}
use Rattle.gate_model.specs.declared.call.Call.TheVariants.{Step}
use Rattle.gate_model.specs.declared.phase.Phase.TheVariants as P
use Rattle.gate_model.specs.Table.{Table}
use Rattle.gate_model.proofs.Bools.{same_bit, same_sym, opposite, clash, and_T, T_and, ne_test, test_ne}
use Rattle.gate_model.proofs.Accepted.{arm_in, arm_is}
use Rattle.machine.specs.Kinds.{Kind}
use Rattle.machine.proofs.Machine.{Stance, d1, d2, d3, d4, d5, at, has, step_arm, turn_step, step, may_step, with_stance_other, with_stance_each, Machine, moved}
use Rattle.machine.proofs.Waiting.{Waiting, not_both, D_awake, find, has_own, other_waits, own_out, own_free}
use Rattle.machine.proofs.Totals.{total, total_drop}
use Rattle.simulation.proofs.Simulates.{Simulates}
use Rattle.simulation.proofs.EveryCall.{step_moves, phase_shown, Sound, moved_sound}
use Rattle.simulation.proofs.Plans.{Plan}

-- how many steps of its doorway an arm has before it
abbrev ahead : Stance → ℕ
ahead (d1 g) = 5
ahead (d2 g) = 4
ahead (d3 s g) = 3
ahead (d4 s) = 2
ahead (d5 s) = 1
ahead a = 0

-- a doorway step takes one of them, keeps the side and leaves the group
abbrev Passes : Bool → Stance → Stance → Bool → Type 0
Passes β a a' β' = (ahead a' + 1 ≤ ahead a) × ((t : Bool) → T (has t a) → T (has t a')) × (β' ≡ β)

doorway_passes : (δ : Kind) (n : ℕ) (β : Bool) (arms : ℕ → Stance) (a : Stance) → T (at P.D a) → Passes β a (step_arm δ n β arms a) (turn_step β a)
doorway_passes δ n β arms a h = grind arith

doorway_may : (a : Stance) → T (at P.D a) → T (may_step a)
doorway_may a h = grind arith

module _ {At : Type 0} {door : Table At} (plan : Plan door) where
  -- a step that the machine allows is refused by nothing, and is the machine's
  step_none : (s : State At) (g : Machine) → Simulates plan s g → (i : ℕ) → 1 ≤ i → i ≤ s.n → T (may_step (g.arms i)) → refusal_of door s (Step i) ≡ None
  step_none s g mir i lo hi k = let x = (mir.shows i lo hi).stands in let y = arm_is s i lo hi in grind arith

  abbrev step_on : (s : State At) (n : ℕ) (h : Sound plan s n) (i : ℕ) → 1 ≤ i → i ≤ h.machine.n → refusal_of door s (Step i) ≡ None → Sound plan (after door s (Step i)) n
  step_on s n h i lo hi e = moved_sound s (after door s (Step i)) n h step i lo hi (subst (λ r. Simulates plan (unless r (stepped door i s) s) (moved h.machine step i)) (sym e) (step_moves s h.machine h.simulates h.keeps i e).still_simulates)

  module _ (u : ℕ) (sd : Bool) (n : ℕ) (ulo : 1 ≤ u) (uhi : u ≤ n) (k : ℕ) where
    -- u waits, the group is its side, and arm k has the other side
    record Barred (g : Machine) : Type 0 where
      pub wait : Waiting sd (g.arms u)
      pub own_group : T (same_bit g.group sd)
      pub foe : T (has (not sd) (g.arms k))

    -- m own steps that do not take it inside
    record Vain (m : ℕ) (s : State At) : Type 0 where
      pub calls : List Call
      pub count : steps_in door u s calls ≡ m
      pub alone : NoOtherInDoorway door u s calls
      pub stays_out : GoesInside door u s calls → ⊥

    not_inside : (s t : State At) (h : Sound plan t n) (c : Call) → t ≡ after door s c → Waiting sd (h.machine.arms u) → T (goes_inside door u s c) → ⊥
    not_inside s t h c q v x = let y = phase_shown t h.machine h.simulates P.F u ulo (let z = h.arms_are in omega arith) in let z = v.2 in grind arith

    own_steps : (m : ℕ) (s : State At) (h : Sound plan s n) → Barred h.machine → ((l : ℕ) → l ≢ u → T (at P.D (h.machine.arms l)) → ⊥) → Vain m s
    own_steps zero s h b calm = record { calls = []; count = refl; alone = tt; stays_out = λ x. x }
    own_steps (suc m) s h b calm =
        let g = h.machine in
        let inv = h.keeps in
        let v = b.wait in
        let hi : u ≤ g.n = let z = h.arms_are in omega arith in
        let none = step_none s g h.simulates u ulo (let z = h.simulates.size in omega arith) (subst (λ y. T (may_step y)) (sym v.2) tt) in
        let h' = step_on s n h u ulo hi none in
        let ne : k ≢ u = λ z. not_both (g.arms u) sd (has_own g inv u sd v.0 v.1 v.2) (subst (λ y. T (has (not sd) (g.arms y))) z b.foe) in
        let wait' : Waiting sd ((moved g step u).arms u) = ⊎_elim (λ x. x)
        (λ x. absurd (opposite g.group sd b.own_group (same_sym g.group (not sd) (own_free g inv u sd v.0 v.1 v.2 x k b.foe))))
        (own_out g inv u sd v.0 v.1 v.2) in
        let barred : Barred (moved g step u) = record {
          wait = wait';
          own_group = subst (λ y. T (same_bit y sd)) (sym (ap (turn_step g.group) v.2)) b.own_group;
          foe = subst (λ y. T (has (not sd) y)) (sym (with_stance_other g.arms u _ k ne)) b.foe;
        } in
        let rest = own_steps m (after door s (Step u)) h' barred (λ l lne x. calm l lne (subst (λ y. T (at P.D y)) (with_stance_other g.arms u _ l lne) x)) in
        let one : ◌≡◌ {A = ℕ} (cond (steps door u s (Step u)) 1 0) 1 = grind (arith, nat_tests) in
        record {
          calls = Step u ∷ rest.calls;
          count = let x = rest.count in omega arith;
          alone = (
            (λ t l larm d.
                let r = arm_in s l larm in
                let lhi : l ≤ g.n = let z = h.simulates.size in let y = r.1 in omega arith in
                ⊎_elim (λ q. q) (λ lne. absurd (calm l lne (subst T (phase_shown s g h.simulates P.D l r.0 lhi) d))) (cases_eq l u)),
            rest.alone,
          );
          stays_out = λ x. ⊎_elim (not_inside s (after door s (Step u)) h' (Step u) refl wait') rest.stays_out x;
        }

    -- all doorway steps before the other arms
    abbrev all_ahead : Machine → ℕ
    all_ahead g = total (λ l. cond (eqb l u) 0 (ahead (g.arms l))) g.n

    end_doorways : (B m : ℕ) (s : State At) (h : Sound plan s n) → Barred h.machine → all_ahead h.machine + 1 ≤ B → Vain m s
    end_doorways zero m s h b low = absurd (omega arith)
    end_doorways (suc B) m s h b low = ⊎_elim
        (λ x.
        let g = h.machine in
        let v = b.wait in
        let l : ℕ = x.0 in
        let y = and_T (not (eqb l u)) (at P.D (g.arms l)) x.3 in
        let lne : l ≢ u = ne_test l u y.0 in
        let passes = doorway_passes g.kind g.n g.group g.arms (g.arms l) y.1 in
        let none = step_none s g h.simulates l x.1 (let z = h.simulates.size in let z' = x.2 in omega arith) (doorway_may (g.arms l) y.1) in
        let h' = step_on s n h l x.1 x.2 none in
        let wait' = other_waits g h.keeps u sd v.0 v.1 v.2 step l lne in
        let barred : Barred (moved g step l) = record {
          wait = wait';
          own_group = subst (λ z. T (same_bit z sd)) (sym passes.2) b.own_group;
          foe = with_stance_each (λ j a. T (has (not sd) (g.arms j)) → T (has (not sd) a)) g.arms l _ (passes.1 (not sd)) (λ j z. z) k b.foe;
        } in
        let drop : all_ahead (moved g step l) + 1 ≤ all_ahead g = total_drop (λ z. cond (eqb z u) 0 (ahead ((moved g step l).arms z))) (λ z. cond (eqb z u) 0 (ahead (g.arms z))) g.n 1 l
        (λ z. let f = passes.0 in grind (arith, nat_tests))
        x.1 x.2
        (let f = passes.0 in grind (arith, nat_tests)) in
        let rest = end_doorways B m (after door s (Step l)) h' barred (omega arith) in
        let not_own : T (steps door u s (Step l)) → ⊥ = λ t. lne (eqb→eq l u (and_T (accepted door s (Step l)) (eqb l u) t).1) in
        record {
          calls = Step l ∷ rest.calls;
          count = let z = rest.count in grind arith;
          alone = ((λ t. absurd (not_own t)), rest.alone);
          stays_out = λ z. ⊎_elim {B = GoesInside door u (after door s (Step l)) rest.calls} (not_inside s (after door s (Step l)) h' (Step l) refl wait') rest.stays_out z;
        })
        (λ none_in. own_steps m s h b (λ l lne d.
        let r = h.keeps.awake l (D_awake (h.machine.arms l) d) in
        clash (not (eqb l u) && at P.D (h.machine.arms l)) (T_and (not (eqb l u)) (at P.D (h.machine.arms l)) (test_ne l u lne) d) (none_in l r.0 r.1)))
        (find (λ l. not (eqb l u) && at P.D (h.machine.arms l)) h.machine.n)

    pub no_way : (s : State At) (h : Sound plan s n) → Waiting sd (h.machine.arms u) → T (same_bit h.machine.group sd) → T (has (not sd) (h.machine.arms k)) → RightOfWay door s u → ⊥
    no_way s h wait q foe right =
        let vain = end_doorways (all_ahead h.machine + 1) (8 * s.n) s h (record { wait = wait; own_group = q; foe = foe }) (omega arith) in
        vain.stays_out (right vain.calls vain.count vain.alone)
