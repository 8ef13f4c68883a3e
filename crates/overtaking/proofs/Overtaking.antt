-- How often an arm gets past one that has ended its doorway, until that one is idle, told of the meaning, from the rules alone.
use Rattle.std.proofs.Common.{◌≡◌, ℕ, ◌+◌, ◌≤◌, Bool, cond, not, ◌&&◌, ◌||◌, T, eqb, ◌≢◌, ◌⊎◌, sym, refl, ap, ◌∙◌, subst, inl, ⊎_elim, arith}
use Rattle.std.proofs.lemmas.Bool.{cases_eq}
use Rattle.std.proofs.lemmas.Bool.Decides.{nat_tests}
use Rattle.gate_model.specs.Meaning.{Stage, resting, coming, read, waiting, inside, leaving, turned, has, at, Meaning}
use Rattle.gate_model.specs.Rules.{Free}
use Rattle.gate_model.proofs.Changes.{Goes, enters, turns, Change, ends_doorway, goes_inside}
use Rattle.gate_model.specs.declared.phase.Phase.TheVariants as P
use Rattle.gate_model.proofs.Bools.{same_bit, same_refl, same_trans}

-- if an arm with side t is in F, or in X before its first exit step, then the bit is 1 - t or no arm has side 1 - t;
-- after that step the bit is 1 - t
abbrev pub Own : Bool → (ℕ → Stage) → Stage → Type 0
Own bit arms (inside t) = Free bit arms t
Own bit arms (leaving t) = Free bit arms t
Own bit arms (turned t) = T (same_bit bit (not t))
Own bit arms a = Unit {0}

-- Own goes on to hold while the bit stays the same, since an arm gets no side but the bit
keep : (bit : Bool) (arms arms' : ℕ → Stage) → ((k : ℕ) (t : Bool) → T (has t (arms' k)) → T (has t (arms k)) ⊎ T (same_bit t bit)) → (a : Stage) → Own bit arms a → Own bit arms' a
keep bit arms arms' seen a h = grind (arith, seen)

turn_other : (bit t : Bool) (arms arms' : ℕ → Stage) (i : ℕ) → arms i ≡ leaving t → Free bit arms t → (k : ℕ) (a : Stage) → arms k ≡ a → Own bit arms a → Own (not t) arms' a
turn_other bit t arms arms' i e free k (inside s) q h = let x = free k in let y = h i in λ k' hk. grind arith
turn_other bit t arms arms' i e free k (leaving s) q h = let x = free k in let y = h i in λ k' hk. grind arith
turn_other bit t arms arms' i e free k a q h = let x = free k in grind arith

module _ (bit : Bool) (arms arms' : ℕ → Stage) (i : ℕ) (frame : (k : ℕ) → k ≢ i → arms' k ≡ arms k) (own : (k : ℕ) → Own bit arms (arms k)) where
  own_still : (a : Stage) → arms' i ≡ a → ((t : Bool) → T (has t a) → T (has t (arms i)) ⊎ T (same_bit t bit)) → Own bit arms a → (k : ℕ) → Own bit arms' (arms' k)
  own_still a e seen h k = ⊎_elim
      (λ q. subst (Own bit arms') (sym (ap arms' q ∙ e)) (keep bit arms arms' all a h))
      (λ ne. subst (Own bit arms') (sym (frame k ne)) (keep bit arms arms' all (arms k) (own k)))
      (cases_eq k i)
    where
      all : (k : ℕ) (t : Bool) → T (has t (arms' k)) → T (has t (arms k)) ⊎ T (same_bit t bit)
      all k t x = let f = frame k in let s = seen t in let c = cases_eq k i in grind arith

  own_goes : (a a' : Stage) (b' : Bool) → arms i ≡ a → arms' i ≡ a' → Goes bit arms a a' b' → (k : ℕ) → Own b' arms' (arms' k)
  own_goes a a' b' e e' (enters {t = u} f) k = own_still (inside u) e' (λ t h. inl (subst (λ y. T (has t y)) (sym e) h)) f k
  own_goes a a' b' e e' (turns {t = u}) k = ⊎_elim
      (λ q. subst (Own (not u) arms') (sym (ap arms' q ∙ e')) (same_refl (not u)))
      (λ ne. subst (Own (not u) arms') (sym (frame k ne)) (turn_other bit u arms arms' i e (subst (Own bit arms) e (own i)) k (arms k) refl (own k)))
      (cases_eq k i)
  own_goes a a' b' e e' goes k = own_still a' e' (λ t h. grind arith) (let o = subst (Own bit arms) e (own i) in grind arith) k

-- an arm with side s that has ended its doorway and is not idle yet
abbrev pub past_doorway : Stage → Bool
past_doorway a = at P.W a || (at P.F a || at P.X a)

abbrev pub is_past : Bool → Stage → Bool
is_past s a = past_doorway a && has s a

past_has : (s u : Bool) (a : Stage) → T (is_past s a) → T (same_bit u s) → T (has u a)
past_has s u a h q = grind arith

-- how often an arm can still get past one of side s that is past its doorway: e says that the bit is s
abbrev pub left : Bool → Bool → Stage → ℕ
left e s resting = cond e 1 0
left e s coming = cond e 1 0
left e s (read u) = cond (same_bit u s) 1 (cond e 2 0)
left e s (waiting u) = cond (same_bit u s) 1 (cond e 2 0)
left e s (inside u) = cond (same_bit u s) 0 (cond e 1 0)
left e s (leaving u) = cond (same_bit u s) 0 (cond e 1 0)
left e s (turned u) = cond (same_bit u s) 0 (cond e 1 0)

left_high : (e s : Bool) (a : Stage) → left e s a ≤ 2
left_high e s a = grind arith

left_idle : (e s : Bool) (a : Stage) → T (at P.I a) → left e s a ≤ 1
left_idle e s a h = grind arith

left_falls : (e e' s : Bool) (a : Stage) → (T e' → T e) → left e' s a ≤ left e s a
left_falls e e' s a f = grind arith

module _ (bit : Bool) (arms : ℕ → Stage) (w : ℕ) (s : Bool) (h : T (is_past s (arms w))) where
  w_side : (u : Bool) → T (same_bit u s) → T (has u (arms w))
  w_side u = past_has s u (arms w) h

  away : (a a' : Stage) (b' : Bool) → Goes bit arms a a' b' → Own bit arms a → T (same_bit b' s) → T (same_bit bit s)
  away a a' b' (turns {t = u}) o q = same_trans bit (not u) s (o w (w_side (not u) q)) q
  away a a' b' goes o q = q

  -- no call of b raises how often it can still get past, and an entry of b lowers it
  left_goes : (a a' : Stage) (b' : Bool) → Goes bit arms a a' b' → Own bit arms a → (left (same_bit b' s) s a' ≤ left (same_bit bit s) s a) × (T (at P.W a && at P.F a') → left (same_bit b' s) s a' + 1 ≤ left (same_bit bit s) s a)
  left_goes a a' b' (enters {t = u} f) o = let x : T (same_bit (not u) s) → T (same_bit bit (not u)) = λ q. f w (w_side (not u) q) in grind arith
  left_goes a a' b' (turns {t = u}) o = let x : T (same_bit (not u) s) → T (same_bit bit (not u)) = λ q. o w (w_side (not u) q) in grind arith
  left_goes a a' b' goes o = grind arith

-- how many entries of its own are still to come, plus 1, so that its entries so far and this make 2
abbrev pub itself : Stage → ℕ
itself a = cond (at P.W a) 2 1

-- the arm that is past its doorway after a call was so before it, with that side, or has ended it
past_goes : (bit : Bool) (arms : ℕ → Stage) (a a' : Stage) (b' : Bool) (s : Bool) → Goes bit arms a a' b' → T (is_past s a') → T (not (at P.D a && at P.W a'))
    → T (is_past s a) × (itself a' + cond (at P.W a && at P.F a') 1 0 ≡ itself a)
past_goes bit arms a a' b' s goes h d = (grind arith, grind arith)

abbrev pub Inv : Meaning → Type 0
Inv m = (k : ℕ) → Own m.bit m.arms (m.arms k)

pub inv_change : (m m' : Meaning) (i : ℕ) → Change m m' i → Inv m → Inv m'
inv_change m m' i c own = own_goes m.bit m.arms m'.arms i c.frame own (m.arms i) (m'.arms i) m'.bit refl refl c.goes

-- the count since w ended its doorway, by whether it ends now and whether the other goes inside now: rem is what may still come
pub count : (W W' : Bool → Type 0) (rem rem' : Bool → ℕ) (E N d o own : Bool) (k : ℕ) →
    ((s : Bool) → W s → (k + rem s ≤ 2) × (T o → k + rem s ≤ 1) × (T own → 2 ≤ k + rem s)) →
    ((s : Bool) → rem' s ≤ 2) →
    (T E → (s : Bool) → (T d → rem' s ≤ 1) × (T own → 2 ≤ rem' s)) →
    (T (not E) → (s : Bool) → W' s → W s × (rem' s ≤ rem s) × (T N → rem' s + 1 ≤ rem s) × (T own → rem s ≤ rem' s + cond N 1 0)) →
    (s : Bool) → W' s → (cond E 0 (cond N (k + 1) k) + rem' s ≤ 2) × (T (cond E d o) → cond E 0 (cond N (k + 1) k) + rem' s ≤ 1) × (T own → 2 ≤ cond E 0 (cond N (k + 1) k) + rem' s)
count W W' rem rem' E N d o own k L high hE hF s w = grind (arith, L s, high s, hE, hF)

-- how often b can still get past w that is past its doorway with side s
abbrev pub remaining : ℕ → ℕ → Meaning → Bool → ℕ
remaining w b m s = cond (eqb b w) (itself (m.arms w)) (left (same_bit m.bit s) s (m.arms b))

-- while w is past its doorway: k entries of b since it ended it, o tells whether b was idle then; of w itself the entries are exact
abbrev pub Counted : ℕ → ℕ → Meaning → ℕ → Bool → Type 0
Counted w b m k o = (s : Bool) → T (is_past s (m.arms w)) → (k + remaining w b m s ≤ 2) × (T o → k + remaining w b m s ≤ 1) × (T (eqb b w) → 2 ≤ k + remaining w b m s)

module _ (w b : ℕ) (m m' : Meaning) (i : ℕ) (c : Change m m' i) (own : Inv m) where
  pub goes_at : (k : ℕ) → i ≡ k → Goes m.bit m.arms (m.arms k) (m'.arms k) m'.bit
  goes_at k q = subst (λ y. Goes m.bit m.arms (m.arms y) (m'.arms y) m'.bit) q c.goes

  pub still : (k : ℕ) → i ≢ k → m'.arms k ≡ m.arms k
  still k ne = c.frame k (λ z. ne (sym z))

  -- a call moves one arm only, so another arm that is idle as w ends its doorway stays idle
  pub idle_stays : T (ends_doorway w m m') → T (at P.I (m.arms b)) → T (not (eqb b w)) → T (at P.I (m'.arms b))
  idle_stays t d ne = let x = still b in let y = still w in grind (arith, nat_tests)

  was_past : (s : Bool) → T (not (ends_doorway w m m')) → T (is_past s (m'.arms w)) → T (is_past s (m.arms w)) × (itself (m'.arms w) + cond (goes_inside w m m') 1 0 ≡ itself (m.arms w))
  was_past s d h = ⊎_elim
      (λ q. past_goes m.bit m.arms (m.arms w) (m'.arms w) m'.bit s (goes_at w q) h d)
      (λ ne. let x = still w ne in (grind arith, grind arith))
      (cases_eq i w)

  left_change : (s : Bool) → T (is_past s (m.arms w)) → T (not (eqb b w))
      → (left (same_bit m'.bit s) s (m'.arms b) ≤ left (same_bit m.bit s) s (m.arms b))
      × (T (goes_inside b m m') → left (same_bit m'.bit s) s (m'.arms b) + 1 ≤ left (same_bit m.bit s) s (m.arms b))
  left_change s old ne = ⊎_elim
      (λ q. left_goes m.bit m.arms w s old (m.arms b) (m'.arms b) m'.bit (goes_at b q) (own b))
      (λ d.
      let x = left_falls (same_bit m.bit s) (same_bit m'.bit s) s (m.arms b) (away m.bit m.arms w s old (m.arms i) (m'.arms i) m'.bit c.goes (own i)) in
      let y = still b d in
      (rw y x, λ t. grind arith))
      (cases_eq i b)

  -- what may still come: two at most; one at most if b was idle as w ended its doorway, and two of w itself then;
  -- at any other call no more than before, and one less where b goes inside
  remaining_high : (s : Bool) → remaining w b m' s ≤ 2
  remaining_high s = let x = left_high (same_bit m'.bit s) s (m'.arms b) in grind arith

  remaining_start : T (ends_doorway w m m') → (s : Bool) → (T (at P.I (m.arms b)) → remaining w b m' s ≤ 1) × (T (eqb b w) → 2 ≤ remaining w b m' s)
  remaining_start t s = (λ d. let x = left_idle (same_bit m'.bit s) s (m'.arms b) in let y = idle_stays t d in grind (arith, nat_tests), λ e. grind arith)

  pub remaining_change : T (not (ends_doorway w m m')) → (s : Bool) → T (is_past s (m'.arms w)) → T (is_past s (m.arms w))
      × (remaining w b m' s ≤ remaining w b m s)
      × (T (goes_inside b m m') → remaining w b m' s + 1 ≤ remaining w b m s)
      × (T (eqb b w) → remaining w b m s ≤ remaining w b m' s + cond (goes_inside b m m') 1 0)
  remaining_change d s h =
      let old = was_past s d h in
      let x = left_change s old.0 in
      (old.0, grind arith, λ t. grind (arith, nat_tests), λ e. grind (arith, nat_tests))

  -- at most two entries past an arm that is past its doorway, and at most one if the arm was idle when that one ended it
  pub count_change : (k : ℕ) (o : Bool) → Counted w b m k o
      → Counted w b m' (cond (ends_doorway w m m') 0 (cond (goes_inside b m m') (k + 1) k)) (cond (ends_doorway w m m') (at P.I (m.arms b)) o)
  count_change k o L = count (λ s. T (is_past s (m.arms w))) (λ s. T (is_past s (m'.arms w))) (remaining w b m) (remaining w b m')
      (ends_doorway w m m') (goes_inside b m m') (at P.I (m.arms b)) o (eqb b w) k L remaining_high remaining_start remaining_change
