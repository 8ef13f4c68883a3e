-- The records of a gate as far as its arms go, with their marks where w is true: what a call makes of them follows from them alone.
use Rattle.std.proofs.Common.{◌≡◌, ℕ, ◌+◌, ◌<◌, Bool, false, ◌&&◌, List, [], ◌∷◌, map, take, get_or, set, replicate, min, sym, refl, ap, ap₂, ◌∙◌, arith}
use lib.ListN.{get_or-map}
use lib.Seq.{take-set-lt}
use Rattle.std.proofs.lemmas.List.{get_or-take, map-set, set-get_or, take-map}
use Rattle.gate_model.specs.Arms.{no_arm, advanced}
use Rattle.gate_model.specs.Calls.{with_visit}
use Rattle.gate_model.specs.Limits.{arm_limit, tally_limit}
use Rattle.gate_model.specs.Table.{Table}
use Rattle.gate_model.specs.Tallies.{with_row, is_idle, counted, row_started, tallied}
use Rattle.gate_model.specs.declared.arm.Arm.{Arm}
use Rattle.gate_model.specs.declared.phase.Phase.{Phase}
use Rattle.gate_model.specs.declared.phase.Phase.TheVariants as P

-- a record as far as a gate of n arms goes, with its mark where w is true
abbrev pub trimmed : {At : Type 0} → Bool → ℕ → Arm At → Arm At
trimmed w n a = record a { out = w && a.out; row = take n a.row; notes = take n a.notes }

map_swapped : {X : Type 0} (f g : X → X) → ((x : X) → f (g x) ≡ g (f x)) → (xs : List X) → map f (map g xs) ≡ map g (map f xs)
map_swapped f g e [] = refl
map_swapped f g e (x ∷ xs) = ap₂ (λ y ys. y ∷ ys) (e x) (map_swapped f g e xs)

module _ {At : Type 0} (door : Table At) (w : Bool) (n : ℕ) where
  abbrev pub seen : List (Arm At) → List (Arm At)
  seen arms = map (trimmed w n) (take n arms)

  nothing_seen : trimmed w n (no_arm door) ≡ no_arm door
  nothing_seen = grind arith

  pub seen_at : (arms : List (Arm At)) (k : ℕ) → k < n → get_or (seen arms) k (no_arm door) ≡ trimmed w n (get_or arms k (no_arm door))
  seen_at arms k l =
      ap (get_or (seen arms) k) (sym nothing_seen) ∙ get_or-map (trimmed w n) (take n arms) k (no_arm door)
      ∙ ap (trimmed w n) (get_or-take n arms k (no_arm door) l)

  pub seen_set : (arms : List (Arm At)) (k : ℕ) → k < n → (a : Arm At) → seen (set arms k a) ≡ set (seen arms) k (trimmed w n a)
  seen_set arms k l a = ap (map (trimmed w n)) (take-set-lt n arms k a l) ∙ map-set (trimmed w n) (take n arms) k a

  -- an arm goes inside
  row_counted : (row : List ℕ) (b : ℕ) → b < n
      → take n (set row b (min (get_or row b 0 + 1) tally_limit)) ≡ set (take n row) b (min (get_or (take n row) b 0 + 1) tally_limit)
  row_counted row b l = take-set-lt n row b _ l ∙ ap (λ v. set (take n row) b (min (v + 1) tally_limit)) (sym (get_or-take n row b 0 l))

  counted_seen : (b : ℕ) → b < n → (a : Arm At) → trimmed w n (counted door b a) ≡ counted door b (trimmed w n a)
  counted_seen b l a = let e = row_counted a.row b l in grind arith

  seen_counted : (b : ℕ) → b < n → (arms : List (Arm At)) → seen (map (counted door b) arms) ≡ map (counted door b) (seen arms)
  seen_counted b l arms = ap (map (trimmed w n)) (take-map (counted door b) n arms) ∙ map_swapped (trimmed w n) (counted door b) (counted_seen b l) (take n arms)

  -- an arm ends its doorway
  idle_seen : (arms : List (Arm At)) → map (is_idle door) (map (trimmed w n) arms) ≡ map (is_idle door) arms
  idle_seen [] = refl
  idle_seen (a ∷ arms) = ap (λ more. is_idle door a ∷ more) (idle_seen arms)

  abbrev started : ℕ → List (Arm At) → List (Arm At)
  started k arms = set arms k (with_row (take n (replicate arm_limit 0)) (map (is_idle door) arms) (get_or arms k (no_arm door)))

  seen_started : (k : ℕ) → k < n → (arms : List (Arm At)) → seen (row_started door k arms) ≡ started k (seen arms)
  seen_started k l arms =
      seen_set arms k l _
      ∙ ap₂ (λ notes a. set (seen arms) k (with_row (take n (replicate arm_limit 0)) notes a))
      (take-map (is_idle door) n arms ∙ sym (idle_seen (take n arms))) (sym (seen_at arms k l))

  -- a step
  abbrev tallied_seen : ℕ → Phase → Phase → List (Arm At) → List (Arm At)
  tallied_seen k P.D P.W arms = started k arms
  tallied_seen k P.W P.F arms = map (counted door k) arms
  tallied_seen k p q arms = arms

  seen_tallied : (k : ℕ) → k < n → (p q : Phase) (arms : List (Arm At)) → seen (tallied door k p q arms) ≡ tallied_seen k p q (seen arms)
  seen_tallied k l p q arms = let x = seen_started k l arms in let y = seen_counted k l arms in grind arith

  abbrev pub step_seen : ℕ → ℕ → List (Arm At) → List (Arm At)
  step_seen k v arms =
      let a = get_or arms k (no_arm door) in
      let b = advanced door n v a in
      tallied_seen k (door.phase a.position) (door.phase b.position) (set arms k b)

  pub seen_step : (k v : ℕ) → k < n → (arms : List (Arm At)) → (let a = get_or arms k (no_arm door) in let b = advanced door n v a in
      seen (tallied door k (door.phase a.position) (door.phase b.position) (set arms k b)) ≡ step_seen k v (seen arms))
  seen_step k v l arms =
      let a = get_or arms k (no_arm door) in
      let b = advanced door n v a in
      seen_tallied k l (door.phase a.position) (door.phase b.position) (set arms k b)
      ∙ ap (tallied_seen k (door.phase a.position) (door.phase b.position)) (seen_set arms k l b)
      ∙ ap (λ (c : Arm At). tallied_seen k (door.phase c.position) (door.phase (advanced door n v c).position) (set (seen arms) k (advanced door n v c))) (sym (seen_at arms k l))

-- without marks, a mark that is put or cleared is not seen
pub mark_unseen : {At : Type 0} (door : Table At) (n k : ℕ) → k < n → (o : Bool) (arms : List (Arm At)) → (let a = get_or arms k (no_arm door) in
    seen door false n (set arms k (with_visit a.position a.visits o a)) ≡ seen door false n arms)
mark_unseen door n k l o arms =
    seen_set door false n arms k l _ ∙ ap (set (seen door false n arms) k) (sym (seen_at door false n arms k l)) ∙ set-get_or (seen door false n arms) k (no_arm door)
