-- An arm is free to go or barred; what way tells is which, and that is right of way.
use Rattle.std.proofs.Common.{◌≡◌, ℕ, zero, suc, ◌+◌, ◌-◌, ◌<◌, ◌≤◌, Bool, not, ◌||◌, T, ◌↔◌, List, [], ◌∷◌, get_or, Option, sym, ap, ◌∙◌, subst, ⊎_elim, arith}
use Rattle.gate_model.specs.Arms.{no_arm, side_of, has_side}
use Rattle.gate_model.specs.States.{State, arm_at}
use Rattle.gate_model.specs.Calls.{some_side, has_way}
use Rattle.gate_model.specs.History.{RightOfWay}
use Rattle.gate_model.specs.declared.arm.Arm.{Arm}
use Rattle.gate_model.specs.Table.{Table}
use Rattle.gate_model.proofs.Bools.{same_bit, same_sym, opposite, test, none_of, or_T, T_or_left, T_or_right}
use Rattle.machine.proofs.Machine.{Machine, side, is_side, has}
use Rattle.machine.proofs.Invariant.{Free}
use Rattle.machine.proofs.Waiting.{Waiting, Barred, free_or_barred}
use Rattle.simulation.proofs.Layouts.{bit_number, side_bit}
use Rattle.simulation.proofs.Plans.{bit_not, bit_number_same, Plan}
use Rattle.simulation.proofs.Simulates.{bit_shown}
use Rattle.simulation.proofs.EveryCall.{Sound}
use Rattle.simulation.proofs.HasWay.{free_way}
use Rattle.simulation.proofs.Blocked.{no_way}

-- sides as bits
side_same : (v : Bool) (o : Option Bool) → has_side (bit_number v) (side_bit o) ≡ is_side v o
side_same b a = grind arith

module _ {At : Type 0} {door : Table At} (plan : Plan door) where
  some_find : (t : ℕ) (arms : List (Arm At)) (n : ℕ) → T (some_side t arms n) → (k : ℕ) × (k < n) × T (has_side t (get_or arms k (no_arm door)).side)
  some_find t arms zero h = absurd h
  some_find t [] (suc n) h = absurd h
  some_find t (a ∷ more) (suc n) h = ⊎_elim
      (λ x. (0, omega arith, x))
      (λ x. let y = some_find t more n x in (suc y.0, (let z = y.1 in omega arith), y.2))
      (or_T (has_side t a.side) (some_side t more n) h)

  some_at : (t : ℕ) (arms : List (Arm At)) (n k : ℕ) → k < n → T (has_side t (get_or arms k (no_arm door)).side) → T (some_side t arms n)
  some_at t (a ∷ more) (suc n) zero l h = T_or_left (has_side t a.side) (some_side t more n) h
  some_at t (a ∷ more) (suc n) (suc k) l h = T_or_right (has_side t a.side) (some_side t more n) (some_at t more n k (omega arith) h)
  some_at t arms n k l h = grind arith

  module _ (s : State At) (n : ℕ) (sound : Sound plan s n) (w : ℕ) (lo : 1 ≤ w) (hi : w ≤ n) (sd : Bool) (wait : Waiting sd (sound.machine.arms w)) where
    abbrev g : Machine
    g = sound.machine

    size : s.n ≡ n
    size = sound.simulates.size ∙ sound.arms_are

    side_is : side_of (arm_at door s w).side ≡ bit_number sd
    side_is = ap side_of ((sound.simulates.shows w lo (let z = size in omega arith)).sided ∙ ap (λ a. side_bit (side a)) wait.2)

    told_is : has_way door s w ≡ (not (same_bit g.group sd) || not (some_side (bit_number (not sd)) s.arms s.n))
    told_is = cc (bit_shown s g sound.simulates (let z = size in omega arith), side_is, bit_number_same g.group sd, bit_not sd)

    -- the side of arm k, in the table
    shown_side : (k : ℕ) → k < n → has_side (bit_number (not sd)) (get_or s.arms k (no_arm door)).side ≡ has (not sd) (g.arms (k + 1))
    shown_side k l =
        ap (λ j. has_side (bit_number (not sd)) (get_or s.arms j (no_arm door)).side) (omega arith)
        ∙ (ap (has_side (bit_number (not sd))) (sound.simulates.shows (k + 1) (omega arith) (let z = size in omega arith)).sided ∙ side_same (not sd) (side (g.arms (k + 1))))

    free_told : Free g.group g.arms sd → T (has_way door s w)
    free_told free = rw told_is (⊎_elim
        (λ q. T_or_right (not (same_bit g.group sd)) _ (none_of (some_side (bit_number (not sd)) s.arms s.n) (λ t.
        let x = some_find (bit_number (not sd)) s.arms s.n t in
        let l : x.0 < n = let y = x.1 in let z = size in omega arith in
        opposite g.group sd q (same_sym g.group (not sd) (free (x.0 + 1) (subst T (shown_side x.0 l) x.2))))))
        (λ d. T_or_left (not (same_bit g.group sd)) _ d)
        (test (same_bit g.group sd)))

    barred_told : Barred g sd → T (has_way door s w) → ⊥
    barred_told (q, (k, foe)) t =
        let r = sound.keeps.range k (not sd) foe in
        let e = sound.arms_are in
        let l : k - 1 < n = let y = r.0 in let z = r.1 in omega arith in
        let back : (k - 1) + 1 ≡ k = let y = r.0 in omega arith in
        let here : T (has_side (bit_number (not sd)) (get_or s.arms (k - 1) (no_arm door)).side) = subst T (sym (shown_side (k - 1) l)) (subst (λ j. T (has (not sd) (g.arms j))) (sym back) foe) in
        let found : T (some_side (bit_number (not sd)) s.arms s.n) = some_at (bit_number (not sd)) s.arms s.n (k - 1) (let z = size in omega arith) here in
        let x = subst T told_is t in
        grind arith

    -- right of way is being free to go
    pub way_free : RightOfWay door s w ↔ Free g.group g.arms sd
    way_free = (
      (λ right. ⊎_elim (λ f. f) (λ b. absurd (no_way plan w sd n lo hi b.1.0 s sound wait b.0 b.1.1 right)) (free_or_barred g sound.keeps sd)),
      free_way plan w sd n lo hi s sound wait,
    )

    pub way_told : T (has_way door s w) ↔ RightOfWay door s w
    way_told = (
      (λ t. ⊎_elim (λ f. way_free.1 f) (λ b. absurd (barred_told b t)) (free_or_barred g sound.keeps sd)),
      (λ right. free_told (way_free.0 right)),
    )
