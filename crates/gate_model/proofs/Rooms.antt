-- How many arms a bank has room for, and its registers written one by one.
use Rattle.std.proofs.Common.{◌≡◌, ℕ, zero, suc, ◌+◌, ◌-◌, ◌<◌, ◌≤◌, min, true, false, leb, List, [], ◌∷◌, ◌++◌, map, drop, length, get_or, set, sym, ap, ◌∙◌, arith, length-append, length-drop, append_assoc, drop-cons, nat_lt, nat_le, ◌&&◌, cond}
use Rattle.std.proofs.Math.Seq.{set-append_seam}
use Rattle.std.proofs.lemmas.List.FromFn.{length-map-range_with_len, map-range_with_len_more}
use Rattle.std.specs.List.{range_with_len}
use Rattle.std.proofs.lemmas.Bool.Decides.{nat_tests}
use Rattle.bank.specs.Lent.{Lent, touched}
use Rattle.bank.specs.Registers.{written}
use Rattle.gate_model.specs.Limits.{arm_limit}
use Rattle.gate_model.specs.Table.{Table}
use Rattle.gate_model.specs.Making.{largest, arms_for, IsLargest, cleared, cleared_memory}

seam : (xs ys : List ℕ) (i y v : ℕ) → length xs ≡ i → set (xs ++ y ∷ ys) i v ≡ (xs ++ v ∷ []) ++ ys
seam xs ys i y v e = ap (λ k. set (xs ++ y ∷ ys) k v) (sym e) ∙ (set-append_seam xs y ys v ∙ sym (append_assoc xs (v ∷ []) ys))

module _ {At : Type 0} (door : Table At) where
  -- the largest arm count that has room, found by going down one by one
  pub largest_none : (len n : ℕ) → n ≡ 0 → largest door len n ≡ n
  unfolding largest
  largest_none len n e = rw e

  pub largest_here : (len n : ℕ) → 0 < n → leb (door.room n) len ≡ true → largest door len n ≡ n
  unfolding largest
  largest_here len zero h t = absurd (omega arith)
  largest_here len (suc n) h t = rw t

  pub largest_down : (len n : ℕ) → 0 < n → leb (door.room n) len ≡ false → largest door len (n - 1) ≡ largest door len n
  unfolding largest
  largest_down len zero h t = absurd (omega arith)
  largest_down len (suc n) h t = let e : suc n - 1 ≡ n = omega arith in rw (e, t)

  largest_most : (len k : ℕ) → largest door len k ≤ k
  unfolding largest
  largest_most len zero = omega arith
  largest_most len (suc k) = let h = largest_most len k in grind arith

  largest_fits : (len k : ℕ) → 0 < largest door len k → door.room (largest door len k) ≤ len
  unfolding largest
  largest_fits len zero h = absurd (omega arith)
  largest_fits len (suc k) h = let f = largest_fits len k in grind (arith, nat_tests)

  pub arms_few : (high len wanted : ℕ) → arms_for door high len wanted ≤ arm_limit
  arms_few high len wanted = let h = largest_most len (min wanted arm_limit) in grind arith

  pub arms_fit : (high len wanted : ℕ) → 0 < arms_for door high len wanted → (door.room (arms_for door high len wanted) ≤ len) × (door.needed ≤ high)
  arms_fit high len wanted h = let f = largest_fits len (min wanted arm_limit) in grind (arith, nat_tests)

  -- no larger count has room
  largest_over : (len k j : ℕ) → largest door len k < j → j ≤ k → len < door.room j
  unfolding largest
  largest_over len zero j l m = absurd (omega arith)
  largest_over len (suc k) j l m = let h = largest_over len k j in grind (arith, nat_tests)

  pub arms_largest : (high len wanted : ℕ) → IsLargest door high len wanted (arms_for door high len wanted)
  arms_largest high len wanted =
      let top = largest_most len (min wanted arm_limit) in
      record {
        within = grind arith;
        few = arms_few high len wanted;
        fits = arms_fit high len wanted;
        most = λ k over may few bits. let h = largest_over len (min wanted arm_limit) k in grind (arith, nat_tests);
      }

  -- one register more written
  pub length_cleared : (i : ℕ) (regs : List ℕ) → i ≤ length regs → length (cleared door i regs) ≡ length regs
  length_cleared i regs h = omega (arith, length-append (map door.first (range_with_len 0 i)) (drop i regs), length-drop i regs, length-map-range_with_len door.first 0 i)

  pub cleared_more : (high i : ℕ) (regs : List ℕ) → i < length regs → door.first i ≤ high → written high (cleared door i regs) i (door.first i) ≡ cleared door (i + 1) regs
  cleared_more high i regs h fits =
      let xs = map door.first (range_with_len 0 i) in
      let len = length_cleared i regs (omega arith) in
      let up : suc i ≡ i + 1 = omega arith in
      let may : (nat_lt i (length (cleared door i regs)) && nat_le (door.first i) high) ≡ true = grind (arith, nat_tests) in
      ap (λ b. cond b (set (cleared door i regs) i (door.first i)) (cleared door i regs)) may
      ∙ ap (λ t. set (xs ++ t) i (door.first i)) (drop-cons regs i 0 h)
      ∙ seam xs (drop (suc i) regs) i (get_or regs i 0) (door.first i) (length-map-range_with_len door.first 0 i)
      ∙ ap (λ t. t ++ drop (suc i) regs) (sym (map-range_with_len_more door.first 0 i i (omega arith)))
      ∙ ap (λ k. map door.first (range_with_len 0 (i + 1)) ++ drop k regs) up

  pub cleared_memory_more : (i : ℕ) (memory : Lent) → touched (cleared_memory door i memory) i (door.first i) ≡ cleared_memory door (i + 1) memory
  cleared_memory_more i memory = let up : suc i ≡ i + 1 = omega arith in ap (λ k. cleared_memory door k memory) up
