-- What the calls do to the items, where they lie within their memory.
use Rattle.std.proofs.Common.{◌≡◌, ℕ, ◌+◌, ◌<◌, cond, List, [], ◌∷◌, ◌++◌, length, get_or, set, drop, Some, None, sym, slice_get, arith}
use Rattle.std.proofs.Math.Seq.{get_or-append_right}
use Rattle.std.proofs.lemmas.List.{length-set, length-take, length-drop, length-append, length_push, get_or-take, get_or-drop, get_or_append_left, get_or_push, get_or-set_other, ext_get_or}
use Rattle.std.proofs.lemmas.Grind.{get_or-set_at, get_or_after_one}
use Rattle.std.proofs.lemmas.Option.{slice_get-get_or, slice_get_past}
use Rattle.std.proofs.lemmas.Bool.Decides.{nat_tests}
use Rattle.ring.specs.Spans.{Fits, laid, place, has_room, put_span, put_slots, taken_span}
use Rattle.ring.specs.declared.span.Span.{Span}

module _ {X : Type 0} (s : Span) (slots : List X) (fits : Fits s (length slots)) where
  pub count_is : length (laid s slots) ≡ s.count
  unfolding laid
  count_is = simp (length-take, length-drop, length-append) (omega arith)

  -- the item that is so many behind the first
  at_place : (j : ℕ) (d : X) → j < s.count → get_or (laid s slots) j d ≡ get_or slots (place s j (length slots)) d
  unfolding laid
  at_place j d l = grind (arith, nat_tests, get_or-take {A = X}, get_or-drop {A = X}, get_or_append_left {A = X}, get_or-append_right {A = X})

  pub none_first : s.count ≡ 0 → None ≡ slice_get (laid s slots) 0
  none_first none = sym (slice_get_past (laid s slots) 0 (omega (arith, count_is)))

  pub some_first : 0 < s.count → (d : X) → Some (get_or slots s.head d) ≡ slice_get (laid s slots) 0
  some_first some d = let first = at_place 0 d some in let n = count_is in grind (arith, nat_tests, slice_get-get_or (laid s slots) 0 d)

module _ {X : Type 0} where
  one_more : (s : Span) (slots : List X) (x : X) → Fits s (length slots) → s.count < length slots
      → laid (record s { count = s.count + 1 }) (set slots (place s s.count (length slots)) x) ≡ laid s slots ++ x ∷ []
  one_more s slots x fits fit =
      let at = place s s.count (length slots) in
      let more : Span = record s { count = s.count + 1 } in
      let size = length-set slots at x in
      let fits_more : Fits more (length (set slots at x)) = record { within = omega arith; starts = omega arith } in
      let n = count_is s slots fits in
      let m = count_is more (set slots at x) fits_more in
      ext_get_or x (laid more (set slots at x)) (laid s slots ++ x ∷ []) (omega (arith, length_push (laid s slots) x))
      (λ j l.
      let t = at_place more (set slots at x) fits_more j x (omega arith) in
      let u = at_place s slots fits j x in
      grind (arith, nat_tests, get_or-set_at {X = X}, get_or-set_other {A = X}, get_or_append_left {A = X}, get_or_push {X = X}))

  pub put_items : (s : Span) (slots : List X) → Fits s (length slots) → (x : X)
      → laid (put_span s slots) (put_slots x s slots) ≡ cond (has_room s slots) (laid s slots ++ x ∷ []) (laid s slots)
  put_items s slots fits x = let n = count_is s slots fits in let more = one_more s slots x fits in grind (arith, nat_tests)

  pub taken_items : (s : Span) (slots : List X) → Fits s (length slots) → laid (taken_span s (length slots)) slots ≡ drop 1 (laid s slots)
  unfolding laid
  taken_items s [] fits = grind (arith, nat_tests)
  taken_items s (x ∷ xs) fits =
      let slots = x ∷ xs in
      let fewer = taken_span s (length slots) in
      let fits_fewer : Fits fewer (length slots) = record { within = grind (arith, nat_tests); starts = grind (arith, nat_tests) } in
      let n = count_is s slots fits in
      let m = count_is fewer slots fits_fewer in
      ext_get_or x (laid fewer slots) (drop 1 (laid s slots)) (grind (arith, nat_tests, length-drop {A = X}))
      (λ j l.
      let t = at_place fewer slots fits_fewer j x (omega arith) in
      let u = at_place s slots fits (1 + j) x in
      grind (arith, nat_tests, get_or_after_one {X = X}))
