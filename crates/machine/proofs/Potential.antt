-- For how many rounds a waiting arm waits at most: its potential, while no arm with the other side stops it; and what such an arm still has to do.
use Rattle.std.proofs.Common.{◌≡◌, ℕ, ◌+◌, ◌-◌, ◌*◌, ◌≤◌, Bool, true, false, cond, not, ◌||◌, T, eqb, ltb, sym, subst, arith}
use Rattle.std.proofs.lemmas.Bool.Decides.{nat_tests}
use Rattle.gate_model.proofs.Bools.{same_bit}
use Rattle.machine.specs.Kinds.{Kind, three_bits, four_valued, WaitingPlace, W1, W2, W3, W4, W5, W6}
use Rattle.machine.proofs.Machine.{Stance, d2, d3, d4, d5, waits, inside, x1, x2, has, choosing, flag, next, step_waiting, outcome, Move, step, act, turn, allowed, Machine}

-- how many moves an arm that chooses still needs until it does not, and at most if it comes to choose
abbrev pub choosing_left : Kind → Stance → ℕ
choosing_left three_bits (d2 g) = 4
choosing_left three_bits (d3 u g) = 3
choosing_left three_bits (d4 u) = 2
choosing_left three_bits (d5 u) = 1
choosing_left four_valued (d2 g) = 2
choosing_left four_valued (d3 u g) = 1
choosing_left four_valued (d4 u) = 1
choosing_left four_valued (d5 u) = 1
choosing_left δ a = 0

abbrev pub whole : Kind → ℕ
whole three_bits = 5
whole four_valued = 3

-- while the group is β, an arm that has this side does not come to choose again
abbrev pub may_choose_again : Bool → Stance → Bool
may_choose_again β (d2 g) = false
may_choose_again β a = not (has β a)

-- so for how many rounds at most an arm keeps those waiting that look at it from W2
abbrev pub queue : Kind → Bool → Stance → ℕ
queue δ β a = choosing_left δ a + cond (may_choose_again β a) (whole δ) 0

-- for how many rounds at most an arm at a place waits, while the group is not its side, where the arm at its index keeps it at W2 for h rounds
abbrev pub quick : ℕ → WaitingPlace → ℕ
quick h W1 = 1
quick h W2 = 5 + h
quick h W3 = 4
quick h W4 = 3
quick h W5 = 2
quick h W6 = 4

abbrev pub quick_of : Kind → Bool → (ℕ → Stance) → Stance → ℕ
quick_of δ β arms (waits u j p) = quick (queue δ β (arms j)) p
quick_of δ β arms a = 0

-- for how many rounds at most it stays at its index while the group is its side s; o: the index is its own
abbrev pub slow : Kind → Bool → Bool → Stance → WaitingPlace → ℕ
slow three_bits s o a W1 = cond o 3 8
slow three_bits s o a W2 = 2 + cond (has (not s) a) 5 (queue three_bits s a)
slow three_bits s o a W3 = cond (has (not s) a) 5 (cond (flag a) 1 4)
slow three_bits s o a W4 = cond (has (not s) a) 5 3
slow three_bits s o a W5 = cond (has (not s) a) 5 (cond (flag a) 2 5)
slow three_bits s o a W6 = cond (has (not s) a) 5 (cond (flag a) 1 4)
slow four_valued s o a W1 = cond o 3 6
slow four_valued s o a W2 = 2 + cond (has (not s) a) 3 (queue four_valued s a)
slow four_valued s o a W5 = 2
slow four_valued s o a p = cond (has (not s) a) 2 1

-- for how many rounds at most arm w, of n, waits at the indices past j
abbrev pub indices_ahead : Kind → ℕ → ℕ → ℕ → ℕ
indices_ahead three_bits n w j = cond (ltb j w) (8 * (n - (j + 1)) + 11) (8 * (n - j) + 8)
indices_ahead four_valued n w j = cond (ltb j w) (6 * (n - (j + 1)) + 9) (6 * (n - j) + 6)

-- for how many rounds at most a waiting arm waits while no arm has the other side; e: the group is its side
abbrev pub rank : Kind → Bool → ℕ → ℕ → Bool → Stance → ℕ → WaitingPlace → ℕ
rank δ true n w s a j p = indices_ahead δ n w j + slow δ s (eqb j w) a p
rank δ false n w s a j p = quick (queue δ (not s) a) p

abbrev pub rank_of : Kind → Bool → ℕ → ℕ → Bool → (ℕ → Stance) → Stance → ℕ
rank_of δ e n w s arms (waits u j p) = rank δ e n w s (arms j) j p
rank_of δ e n w s arms a = 0

quick_is : (δ : Kind) (n w : ℕ) (s : Bool) (arms : ℕ → Stance) (a : Stance) → rank_of δ false n w s arms a ≡ quick_of δ (not s) arms a
quick_is δ n w s arms a = grind arith

abbrev pub potential : Bool → Machine → ℕ → ℕ
potential s g w = rank_of g.kind (same_bit g.group s) g.n w s g.arms (g.arms w)

-- what an arm with the other side than s still has to do until it is idle, while the group is s
abbrev pub cost : Kind → Bool → (ℕ → Stance) → Stance → ℕ
cost δ s arms (d3 u g) = 8
cost δ s arms (d4 u) = 7
cost δ s arms (d5 u) = 6
cost δ s arms (waits u j p) = 4 + quick (queue δ s (arms j)) p
cost δ s arms (inside u o) = cond o 3 4
cost δ s arms (x1 u) = 2
cost δ s arms (x2 u) = 1
cost δ s arms a = 0

abbrev pub foe : Kind → Bool → (ℕ → Stance) → Stance → ℕ
foe δ s arms a = cond (has (not s) a) (cost δ s arms a) 0

-- the arm stands at W2 of one that chooses
abbrev pub held : (ℕ → Stance) → Stance → Bool
held arms (waits u j W2) = choosing (arms j)
held arms a = false

-- what the invariant says of another arm while an arm with side s waits
abbrev pub Fit : Bool → Bool → Stance → Type 0
Fit β s (x1 u) = T (same_bit (not u) s) → T (same_bit β (not u))
Fit β s (x2 u) = T (same_bit β (not u))
Fit β s a = Unit {0}

-- the group turns only away from the waiting arm's side
pub turn_away : (m : Move) (β s : Bool) (a : Stance) → Fit β s a → T (same_bit (turn m β a) s) → T (same_bit β s)
turn_away m β s a f h = grind arith

-- of an arm that moves: it keeps the others waiting no longer than before, and less long if it chooses before or after
module _ (δ : Kind) (n : ℕ) (β : Bool) (arms : ℕ → Stance) (s : Bool) where
  never_chooses : (b : Stance) (u : Bool) (j : ℕ) (p : WaitingPlace) → T (choosing (step_waiting δ n β b u j p)) → ⊥
  never_chooses b u = outcome (λ r. T (choosing r) → ⊥) δ n β b u (λ j p x. x) (λ x. x)

  pub queue_act : (m : Move) (a : Stance) → Fit β s a → T (same_bit (turn m β a) s) → queue δ s (act m δ n β arms a) ≤ queue δ s a
  queue_act step (waits u j p) f q = outcome (λ r. queue δ s r ≤ queue δ s (waits u j p)) δ n β (arms j) u (λ j p. grind arith) (grind arith) j p
  queue_act m a f q = grind arith

  pub queue_chooses : (m : Move) (a : Stance) → T (same_bit β s) → T (allowed m a) → T (choosing a || choosing (act m δ n β arms a)) → queue δ s (act m δ n β arms a) + 1 ≤ queue δ s a
  queue_chooses step (waits u j p) q k c = absurd (never_chooses (arms j) u j p c)
  queue_chooses m a q k c = grind arith

  -- so the rank of an arm that looks at it
  pub rank_waits : (b : Stance) (e : Bool) (w : ℕ) (u : Bool) (j i : ℕ) (p p' : WaitingPlace) → rank δ e n w s (step_waiting δ n β b u j p) i p' ≤ rank δ e n w s (waits u j p) i p'
  rank_waits b e w u j i p p' = outcome (λ r. rank δ e n w s r i p' ≤ rank δ e n w s (waits u j p) i p') δ n β b u (λ j p. grind arith) (grind arith) j p

  pub rank_act : (w : ℕ) (m : Move) (a : Stance) (i : ℕ) (p : WaitingPlace) → Fit β s a → (T (same_bit (turn m β a) s) → T (same_bit β s)) → rank δ (same_bit (turn m β a) s) n w s (act m δ n β arms a) i p ≤ rank δ (same_bit β s) n w s a i p
  rank_act w step (waits u j p') i p f q = rank_waits (arms j) (same_bit β s) w u j i p' p
  rank_act w m a i p f q = grind arith

  pub rank_chooses : (w : ℕ) (m : Move) (a : Stance) (i : ℕ) → Fit β s a → (T (same_bit β s) → T (not (has (not s) a))) → T (allowed m a) → T (choosing a || choosing (act m δ n β arms a)) →
      rank δ (same_bit (turn m β a) s) n w s (act m δ n β arms a) i W2 + 1 ≤ rank δ (same_bit β s) n w s a i W2
  rank_chooses w step (waits u j p) i f free k c = absurd (never_chooses (arms j) u j p c)
  rank_chooses w m a i f free k c = grind arith

-- as the group turns
pub rank_turns : (δ : Kind) (e e' : Bool) (n w : ℕ) (s : Bool) (a : Stance) (j : ℕ) (p : WaitingPlace) → (T e' → T e) → rank δ e' n w s a j p ≤ rank δ e n w s a j p
rank_turns δ e e' n w s a j p f = grind arith

-- a waiting arm's own step; k: it is not at W2 of an arm that chooses
module _ (δ : Kind) (n : ℕ) (β : Bool) (arms : ℕ → Stance) (u : Bool) (j : ℕ) where
  abbrev after : WaitingPlace → Stance
  after p = step_waiting δ n β (arms j) u j p

  quick_next : (γ : Bool) → quick_of δ γ arms (next n u j) ≤ 1
  quick_next γ = grind arith

  -- the group is not its side: its number falls
  pub quick_step : (γ k : Bool) (p : WaitingPlace) → T (not (same_bit β u)) → (T k → T (not (held arms (waits u j p)))) → quick_of δ γ arms (after p) + cond k 1 0 ≤ quick (queue δ γ (arms j)) p
  quick_step γ k p d c = let x = quick_next γ in grind arith

  slow_next : (w : ℕ) → w ≤ n → rank_of δ true n w u arms (next n u j) ≤ indices_ahead δ n w j
  slow_next w hi = grind (arith, nat_tests)

  -- the group is its side: its rank does not rise, and falls if k, where the arm at its index does not have the other side
  pub slow_step : (w : ℕ) (k : Bool) (p : WaitingPlace) → w ≤ n → T (same_bit β u) → (T (eqb j w) → T (has u (arms j)) × T (not (choosing (arms j)))) → (T k → T (not (held arms (waits u j p)))) → (T k → T (not (has (not u) (arms j)))) →
      rank_of δ true n w u arms (after p) + cond k 1 0 ≤ rank δ true n w u (arms j) j p
  slow_step w k W1 hi q own c free = grind arith
  slow_step w k W2 hi q own c free = grind arith
  slow_step w k p hi q own c free = let x = slow_next w hi in grind arith

  -- in either case
  pub own_step : (w : ℕ) (k : Bool) (p : WaitingPlace) → w ≤ n → (T (eqb j w) → T (has u (arms j)) × T (not (choosing (arms j)))) → (T k → T (not (held arms (waits u j p)))) → (T k → T (same_bit β u) → T (not (has (not u) (arms j)))) →
      (e : Bool) → same_bit β u ≡ e → rank_of δ e n w u arms (after p) + cond k 1 0 ≤ rank δ e n w u (arms j) j p
  own_step w k p hi own c free true q = let t : T (same_bit β u) = subst T (sym q) tt in slow_step w k p hi t own c (λ x. free x t)
  own_step w k p hi own c free false q = let x = quick_is δ n w u arms (after p) in let y = quick_step (not u) k p (subst (λ b. T (not b)) (sym q) tt) c in omega arith

-- what an arm with the other side still has to do: no more than before, and less after its move if it was not at W2 of one that chooses
module _ (δ : Kind) (n : ℕ) (β : Bool) (arms : ℕ → Stance) (s : Bool) (q : T (same_bit β s)) where
  pub foe_act : (k : Bool) (m : Move) (a : Stance) → (T k → T (allowed m a) × T (not (held arms a))) → foe δ s arms (act m δ n β arms a) ≤ foe δ s arms a - cond k 1 0
  foe_act k step (waits u j p) c =
      let x = outcome (λ r. foe δ s arms r ≤ cond (same_bit (not s) u) (4 + quick_of δ s arms r) 0) δ n β (arms j) u (λ j p. omega arith) (omega arith) j p in
      let y = quick_step δ n β arms u j s k p in
      grind arith
  foe_act k m a c = grind arith

-- as the others move
looks_on : (c : Bool) (h h' : ℕ) (p : WaitingPlace) → h ≤ h' → cond c (4 + quick h p) 0 ≤ cond c (4 + quick h' p) 0
looks_on c h h' p l = grind arith

pub foe_look : (δ : Kind) (s : Bool) (arms arms' : ℕ → Stance) → ((k : ℕ) → queue δ s (arms' k) ≤ queue δ s (arms k)) → (a : Stance) → foe δ s arms' a ≤ foe δ s arms a
foe_look δ s arms arms' h (waits u j p) = looks_on (same_bit (not s) u) _ _ p (h j)
foe_look δ s arms arms' h a = grind arith

looks_less : (c : Bool) (h h' : ℕ) → h + 1 ≤ h' → cond c (4 + quick h W2) 0 ≤ cond c (4 + quick h' W2) 0 - 1
looks_less c h h' l = grind arith

pub foe_held : (δ : Kind) (s : Bool) (arms arms' : ℕ → Stance) (u : Bool) (i : ℕ) → queue δ s (arms' i) + 1 ≤ queue δ s (arms i) → foe δ s arms' (waits u i W2) ≤ foe δ s arms (waits u i W2) - 1
foe_held δ s arms arms' u i l = looks_less (same_bit (not s) u) _ _ l

abbrev pub most : Kind → ℕ
most three_bits = 17
most four_valued = 13

pub foe_bound : (δ : Kind) (s : Bool) (arms : ℕ → Stance) (a : Stance) → foe δ s arms a ≤ most δ
foe_bound δ s arms a = grind arith

pub foe_some : (δ : Kind) (s : Bool) (arms : ℕ → Stance) (a : Stance) → T (has (not s) a) → 1 ≤ foe δ s arms a
foe_some δ s arms a h = grind arith

pub foe_none : (δ : Kind) (s : Bool) (arms : ℕ → Stance) (a : Stance) → T (not (has (not s) a)) → foe δ s arms a ≤ 0
foe_none δ s arms a h = grind arith
