-- Right of way and going inside, of any door with a plan.
use Rattle.std.proofs.Common.{◌≡◌, ℕ, ◌≤◌, Bool, not, T, ◌↔◌, List, Some, sym, ap, ◌∙◌, subst, ⊎_elim, arith}
use Rattle.gate_model.specs.Making.{Making}
use Rattle.gate_model.specs.Table.{Table}
use Rattle.gate_model.specs.Phases.{same_phase}
use Rattle.gate_model.specs.States.{State, made, is_arm, arm_at, phase_at}
use Rattle.gate_model.specs.Calls.{run, has_way}
use Rattle.gate_model.specs.History.{is_in, Waits, RightOfWay, bit_read, Rounds, GoesInside}
use Rattle.gate_model.specs.Law.{Entering, ShowsWay}
use Rattle.gate_model.specs.declared.call.Call.{Call}
use Rattle.gate_model.specs.declared.phase.Phase.{Phase}
use Rattle.gate_model.specs.declared.phase.Phase.TheVariants as P
use Rattle.gate_model.proofs.Bools.{same_bit, same_path, test, and_T}
use Rattle.gate_model.proofs.Accepted.{arm_in, arm_is}
use Rattle.gate_model.proofs.Doorways.{reading}
use Rattle.machine.proofs.Machine.{Stance, side}
use Rattle.machine.proofs.Invariant.{Free}
use Rattle.machine.proofs.Waiting.{Waiting, phase_waits}
use Rattle.simulation.proofs.Layouts.{bit_number, side_bit}
use Rattle.simulation.proofs.Plans.{Plan}
use Rattle.simulation.proofs.EveryCall.{Sound, sound, phase_shown}
use Rattle.simulation.proofs.RulesShown.{phased_by, rules_by}
use Rattle.simulation.proofs.Doorways.{reads_by}
use Rattle.simulation.proofs.WayTold.{way_free, way_told}
use Rattle.simulation.proofs.Rounds.{all_go_inside}

bit_once : (x y : Bool) → bit_number x ≡ bit_number y → x ≡ y
bit_once x y e = grind arith

waits_awake : (p : Phase) → T (same_phase p P.W) → T (not (same_phase p P.I))
waits_awake p h = grind arith

-- two arms with the same side are free to go together; of two with different sides one only
free_same : (β : Bool) (arms : ℕ → Stance) (u w : ℕ) (t v : Bool) → Waiting t (arms u) → Waiting v (arms w) → (Free β arms t ↔ Free β arms v) ↔ (t ≡ v)
free_same β arms u w t v wu ww =
    let us = wu.2 in
    let ws = ww.2 in (
      (λ both. ⊎_elim (same_path t v) (λ d. absurd (⊎_elim
          (λ q. let x = both.1 (λ k h. grind arith) w in grind arith)
          (λ q. let x = both.0 (λ k h. grind arith) u in grind arith)
          (test (same_bit β t)))) (test (same_bit t v))),
      (λ q. subst (λ x. Free β arms t ↔ Free β arms x) q ((λ f. f), (λ f. f))),
    )

module _ {At : Type 0} {door : Table At} (plan : Plan door) (making : Making) (past : List Call) where
  abbrev start : State At
  start = made door making

  abbrev now : State At
  now = run door start past

  waits_range : (w : ℕ) → Waits door now w → (1 ≤ w) × (w ≤ now.n) × T (is_in door P.W now w)
  waits_range w h = let x = and_T (is_arm now w) (is_in door P.W now w) h in let r = arm_in now w x.0 in (r.0, r.1, x.1)

  module _ (some : 1 ≤ now.n) where
    abbrev here : Sound plan now now.n
    here = sound plan making past some

    -- an arm that waits in the machine, with the bit that it read as its side
    waiting : (w : ℕ) → Waits door now w → (sd : Bool) × Waiting sd (here.machine.arms w)
    waiting w h = let r = waits_range w h in phase_waits (here.machine.arms w) (subst T (phase_shown now here.machine here.simulates P.W w r.0 (let z = here.arms_are in omega (arith, r.1))) r.2)

    bit_is : (w : ℕ) → Waits door now w → (sd : Bool) → Waiting sd (here.machine.arms w) → bit_read door w start past ≡ bit_number sd
    bit_is w h sd v =
        let r = waits_range w h in
        let sided : (arm_at door now w).side ≡ Some (bit_number sd) = (here.simulates.shows w r.0 r.1).sided ∙ ap (λ a. side_bit (side a)) v.2 in
        sym ((reading door (phased_by plan) (rules_by plan) (reads_by plan) making past).side_read w (bit_number sd) (arm_is now w r.0 r.1) (waits_awake (phase_at door now w) r.2) sided)

    alike : (u w : ℕ) → Waits door now u → Waits door now w → (RightOfWay door now u ↔ RightOfWay door now w) ↔ (bit_read door u start past ≡ bit_read door w start past)
    alike u w hu hw =
        let at_u = waits_range u hu in
        let at_w = waits_range w hw in
        let a = waiting u hu in
        let b = waiting w hw in
        let bits_u = bit_is u hu a.0 a.1 in
        let bits_w = bit_is w hw b.0 b.1 in
        let way_u = way_free plan now now.n here u at_u.0 at_u.1 a.0 a.1 in
        let way_w = way_free plan now now.n here w at_w.0 at_w.1 b.0 b.1 in
        let free = free_same here.machine.group here.machine.arms u w a.0 b.0 a.1 b.1 in (
          (λ both. bits_u ∙ (ap bit_number (free.0 ((λ f. way_w.0 (both.0 (way_u.1 f))), (λ f. way_u.0 (both.1 (way_w.1 f))))) ∙ sym bits_w)),
          (λ equal. let q = free.1 (bit_once a.0 b.0 (sym bits_u ∙ (equal ∙ bits_w))) in ((λ right. way_w.1 (q.0 (way_u.0 right))), (λ right. way_u.1 (q.1 (way_w.0 right))))),
        )

    inside_by_door : (w : ℕ) → Waits door now w → (further : List Call) → Rounds door (door.rounds now.n) now further → GoesInside door w now further
    inside_by_door w h = let r = waits_range w h in let v = waiting w h in all_go_inside plan w v.0 now.n r.0 r.1 now here v.1 (door.rounds now.n) (plan.soon_enough now.n)

    told : (w : ℕ) → Waits door now w → (T (has_way door now w) ↔ RightOfWay door now w)
    told w h = let r = waits_range w h in let v = waiting w h in way_told plan now now.n here w r.0 r.1 v.0 v.1

  -- a gate where an arm waits has an arm
  some : (w : ℕ) → Waits door now w → 1 ≤ now.n
  some w h = let r = waits_range w h in let lo = r.0 in let hi = r.1 in omega arith

  entering : Entering door start past now
  entering = record {
    alike = λ u w hu. alike (some u hu) u w hu;
    by_door = λ w h. inside_by_door (some w h) w h;
    told = λ w h. told (some w h) w h;
  }

pub way_by : {At : Type 0} {door : Table At} → Plan door → ShowsWay door
way_by plan = record { entering = entering plan; few = plan.rounds_few }
