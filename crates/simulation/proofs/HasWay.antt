-- An arm that is free to go has right of way.
use Rattle.std.proofs.Common.{◌≡◌, ℕ, ◌≤◌, Bool, cond, not, ◌&&◌, T, eqb, ◌⊎◌, List, [], ◌∷◌, sym, ap, ◌∙◌, subst, inl, inr, ⊎_elim, arith}
use Rattle.std.proofs.lemmas.Bool.Decides.{nat_tests}
use Rattle.std.proofs.lemmas.Bool.{cases_eq}
use Rattle.gate_model.specs.States.{State}
use Rattle.gate_model.specs.Calls.{after}
use Rattle.gate_model.specs.History.{steps, goes_inside, GoesInside, steps_in, NoOtherInDoorway, RightOfWay}
use Rattle.gate_model.specs.declared.call.Call.{Call}
use Rattle.gate_model.specs.declared.phase.Phase.TheVariants as P
use Rattle.gate_model.specs.Table.{Table}
use Rattle.gate_model.proofs.Bools.{none_of}
use Rattle.gate_model.proofs.Accepted.{arm_is}
use Rattle.machine.proofs.Machine.{Move, step, is_step, at, may_step, allowed, moved}
use Rattle.machine.proofs.Invariant.{Free}
use Rattle.machine.proofs.Waiting.{Waiting, only_steps, index_in, move_out}
use Rattle.machine.proofs.Rank.{needs, free_after, needs_other, needs_mine, needs_some, needs_bound}
use Rattle.simulation.proofs.EveryCall.{CallSimulated, stays, goes, came, phase_shown, entry_goes, Sound, same_sound, moved_sound}
use Rattle.simulation.proofs.Plans.{Plan}

module _ {At : Type 0} {door : Table At} (plan : Plan door) where
  module _ (w : ℕ) (sd : Bool) (n : ℕ) (wlo : 1 ≤ w) (whi : w ≤ n) where
    goes_on : (cs : List Call) (s : State At) (h : Sound plan s n) → Waiting sd (h.machine.arms w) → Free h.machine.group h.machine.arms sd → needs h.machine sd w ≤ steps_in door w s cs → NoOtherInDoorway door w s cs → GoesInside door w s cs
    goes_on [] s h (j, p, wait) free enough alone = absurd (let x = needs_some h.machine h.keeps w sd j p wait free in omega arith)
    goes_on (c ∷ cs) s h (j, p, wait) free enough (here, alone) =
        go (came s h.machine h.simulates h.keeps c) (λ h' wait' free' enough'. inr (goes_on cs (after door s c) h' wait' free' enough' alone))
      where
        Goal : Type 0
        Goal = T (goes_inside door w s c) ⊎ GoesInside door w (after door s c) cs

        b : (1 ≤ j) × (j ≤ h.machine.n)
        b = index_in h.machine h.keeps w sd j p wait

        -- the arm at its index is not in its doorway at its own step
        calm : T (steps door w s c) → T (not (at P.D (h.machine.arms j)))
        calm t = none_of (at P.D (h.machine.arms j)) (λ d.
            let q : j ≡ w = here t j (arm_is s j b.0 (let z = h.simulates.size in let y = b.1 in omega arith)) (subst T (sym (phase_shown s h.machine h.simulates P.D j b.0 b.1)) d) in
            subst (λ y. T (at P.D y)) (ap h.machine.arms q ∙ wait) d)

        fewer : (m : Move) (i : ℕ) → T (allowed m (h.machine.arms i)) → steps door w s c ≡ (is_step m && eqb i w) → needs (moved h.machine m i) sd w ≤ steps_in door w (after door s c) cs
        fewer m i k st = ⊎_elim
            (λ q.
            let r : m ≡ step = only_steps m (h.machine.arms i) (subst (λ y. T (may_step y)) (sym (ap h.machine.arms q ∙ wait)) tt) k in
            let t : T (steps door w s c) = grind (arith, nat_tests) in
            let y = needs_mine h.machine h.keeps w sd j p wait free b.0 b.1 (calm t) in
            let o : cond (steps door w s c) 1 0 ≤ 1 = grind arith in
            rw (r, q) (omega arith))
            (λ ne.
            let z : ◌≡◌ {A = ℕ} (cond (steps door w s c) 1 0) 0 = grind (arith, nat_tests) in
            let y = needs_other h.machine h.keeps w sd j p wait free m i ne in
            omega arith)
            (cases_eq i w)

        go : CallSimulated plan h.machine s c
            → ((h' : Sound plan (after door s c) n) → Waiting sd (h'.machine.arms w) → Free h'.machine.group h'.machine.arms sd → needs h'.machine sd w ≤ steps_in door w (after door s c) cs → Goal) → Goal
        go (stays mir _ st) again = again (same_sound s (after door s c) n h mir) (j, p, wait) free (let z = st w in grind arith)
        go (goes m i lo hi k mir _ st _) again = ⊎_elim
            (λ x. inl (entry_goes w sd s h.machine wlo (let z = h.arms_are in omega arith) h.simulates (j, p, wait) c m i mir st x.0))
            (λ x. again (moved_sound s (after door s c) n h m i lo hi mir) x (free_after h.machine h.keeps w sd j p wait free m i) (fewer m i k (st w)))
            (move_out h.machine h.keeps w sd j p wait m i k)

    pub free_way : (s : State At) (h : Sound plan s n) → Waiting sd (h.machine.arms w) → Free h.machine.group h.machine.arms sd → RightOfWay door s w
    free_way s h v free cs count alone =
        let e = h.arms_are in
        let z = h.simulates.size in
        let b = index_in h.machine h.keeps w sd v.0 v.1 v.2 in
        let x = needs_bound h.machine h.keeps w sd v.0 v.1 v.2 free wlo (omega arith) b.0 b.1 in
        goes_on cs s h v free (omega arith) alone
