-- What a round owes: a move that lowers the waiting arm's potential, or, where arms with the other side stop it, a move for each of these, so that each has less to do.
use Rattle.std.proofs.Common.{◌≡◌, ℕ, ◌+◌, ◌-◌, ◌≤◌, Bool, true, false, cond, not, ◌||◌, T, eqb, ◌≢◌, ◌⊎◌, sym, refl, ap, ◌∙◌, subst, inl, inr, ⊎_elim, arith, eqb→eq}
use Rattle.std.proofs.lemmas.Bool.{cases_eq}
use Rattle.gate_model.specs.declared.phase.Phase.TheVariants as P
use Rattle.gate_model.proofs.Bools.{same_bit, test, clash, T_or_left, T_or_right, by}
use Rattle.machine.specs.Kinds.{Kind, WaitingPlace, W2}
use Rattle.machine.proofs.Machine.{Stance, waits, at, has, choosing, Move, act, may_step, allowed, with_stance_same, with_stance_other, with_stance_each, Machine, moved}
use Rattle.machine.proofs.Invariant.{Free, Inv}
use Rattle.machine.proofs.Waiting.{Waiting, Entry, only_steps, has_awake, free_or_barred, move_out}
use Rattle.machine.proofs.Potential.{queue, held, queue_act, queue_chooses, potential, foe, foe_act, foe_look, foe_bound, foe_some, foe_none, foe_held, most}
use Rattle.machine.proofs.Falls.{fit, away, other_le, held_falls, potential_own}
use Rattle.machine.proofs.Rank.{free_none, free_after}

-- a move that brings arm b forward is still to come: its own, or that of the arm for which it waits at W2; due tells of which arms a move is to come
pub data Owed (arms : ℕ → Stance) (due : ℕ → Type 0) (b : ℕ) : Type 0 where
  own : T (not (held arms (arms b))) → due b → Owed arms due b
  other : (u : Bool) (c : ℕ) → arms b ≡ waits u c W2 → T (choosing (arms c)) → due c → Owed arms due b

-- what the move m of arm i is to b: b's own; or that of the arm for which b waits at W2, which chooses before it or after; or neither, and one is still to come
data Went (g : Machine) (m : Move) (i : ℕ) (due : ℕ → Type 0) (b : ℕ) : Type 0 where
  mine : b ≡ i → T (not (held g.arms (g.arms i))) → Went g m i due b
  frees : b ≢ i → (u : Bool) → g.arms b ≡ waits u i W2 → T (choosing (g.arms i) || choosing (act m g.kind g.n g.group g.arms (g.arms i))) → Went g m i due b
  still : Owed (moved g m i).arms due b → Went g m i due b

held_by : (arms : ℕ → Stance) (a : Stance) → T (held arms a) → (u : Bool) × (c : ℕ) × (a ≡ waits u c W2) × T (choosing (arms c))
held_by arms (waits u j W2) h = (u, j, refl, h)
held_by arms a h = absurd h

held_stays : (m : Move) (δ : Kind) (n : ℕ) (β : Bool) (arms : ℕ → Stance) (a : Stance) (u : Bool) (c : ℕ) → a ≡ waits u c W2 → T (choosing (arms c)) → act m δ n β arms a ≡ waits u c W2
held_stays m δ n β arms a u c e h = grind arith

choosing_awake : (a : Stance) → T (choosing a) → T (not (at P.I a))
choosing_awake a c = grind arith

apart : (arms : ℕ → Stance) (b c : ℕ) (u : Bool) → arms b ≡ waits u c W2 → T (choosing (arms c)) → b ≢ c
apart arms b c u q h z = let x : T (choosing (waits u c W2)) = subst (λ a. T (choosing a)) (ap arms (sym z) ∙ q) h in absurd x

module _ (g : Machine) (m : Move) (i : ℕ) (due due' : ℕ → Type 0) (on : (b : ℕ) → b ≢ i → due b → due' b) where
  went : (b : ℕ) → Owed g.arms due b → Went g m i due' b
  went b (own d x) = ⊎_elim (λ z. mine z (subst (λ y. T (not (held g.arms (g.arms y)))) z d)) alone (cases_eq b i)
    where
      alone : b ≢ i → Went g m i due' b
      alone ne = ⊎_elim
          (λ h.
          let y = held_by (moved g m i).arms (g.arms b) h in
          ⊎_elim
          (λ z. frees ne y.0 (subst (λ c. g.arms b ≡ waits y.0 c W2) z y.2) (T_or_right _ _ (subst (λ a. T (choosing a)) (ap (moved g m i).arms z ∙ with_stance_same g.arms i _) y.3)))
          (λ nc. absurd (clash (choosing (g.arms y.1)) (subst (λ a. T (choosing a)) (with_stance_other g.arms i _ y.1 nc) y.3) (subst (λ a. T (not (held g.arms a))) y.2 d)))
          (cases_eq y.1 i))
          (λ d'. still (own (subst (λ a. T (not (held (moved g m i).arms a))) (sym (with_stance_other g.arms i _ b ne)) d') (on b ne x)))
          (test (held (moved g m i).arms (g.arms b)))
  went b (other u c q h x) = ⊎_elim
      (λ z. frees (λ t. apart g.arms b c u q h (t ∙ sym z)) u (subst (λ y. g.arms b ≡ waits u y W2) z q) (T_or_left _ _ (subst (λ y. T (choosing (g.arms y))) z h)))
      (λ ne. still (other u c
      (by (λ a. a ≡ waits u c W2) (eqb b i) _ (g.arms b) (λ t. held_stays m g.kind g.n g.group g.arms (g.arms i) u c (subst (λ y. g.arms y ≡ waits u c W2) (eqb→eq b i t) q) h) (λ t. q))
      (subst (λ a. T (choosing a)) (sym (with_stance_other g.arms i _ c ne)) h) (on c ne x)))
      (cases_eq c i)

-- while the group is s, no arm with the other side has more than M to do
abbrev pub Below : Machine → Bool → ℕ → Type 0
Below g s M = T (same_bit g.group s) → (k : ℕ) → foe g.kind s g.arms (g.arms k) ≤ M

-- what a round owes: that each arm with the other side has less than M to do, or w itself a move, where none stops it
pub data Due (g : Machine) (w : ℕ) (s : Bool) (M : ℕ) (due : ℕ → Type 0) : Type 0 where
  foes : 1 ≤ M → (T (same_bit g.group s) → (k : ℕ) → (foe g.kind s g.arms (g.arms k) + 1 ≤ M) ⊎ Owed g.arms due k) → Due g w s M due
  self : Free g.group g.arms s → Owed g.arms due w → Due g w s M due

module _ (g : Machine) (inv : Inv g) (w : ℕ) (s : Bool) (j : ℕ) (p : WaitingPlace) (e : g.arms w ≡ waits s j p) where
  module _ (m : Move) (i : ℕ) (q : T (same_bit (moved g m i).group s)) where
    abbrev new : ℕ → Stance
    new = (moved g m i).arms

    -- the group was s already
    was : T (same_bit g.group s)
    was = away g inv w s j p e m i q

    queues : (k : ℕ) → queue g.kind s (new k) ≤ queue g.kind s (g.arms k)
    queues = with_stance_each (λ k a. queue g.kind s a ≤ queue g.kind s (g.arms k)) g.arms i _ (queue_act g.kind g.n g.group g.arms s m (g.arms i) (fit g inv w s j p e i) q) (λ k. omega arith)

    -- the mover's own, and no arm's rises
    foe_mover : (c : Bool) → (T c → T (allowed m (g.arms i)) × T (not (held g.arms (g.arms i)))) → foe g.kind s new (new i) ≤ foe g.kind s g.arms (g.arms i) - cond c 1 0
    foe_mover c h =
        let x = foe_act g.kind g.n g.group g.arms s was c m (g.arms i) h in
        let y = foe_look g.kind s g.arms new queues (new i) in
        let z = ap (foe g.kind s g.arms) (with_stance_same g.arms i (act m g.kind g.n g.group g.arms (g.arms i))) in
        omega arith

    foe_after : (k : ℕ) → foe g.kind s new (new k) ≤ foe g.kind s g.arms (g.arms k)
    foe_after = with_stance_each (λ k a. foe g.kind s new a ≤ foe g.kind s g.arms (g.arms k)) g.arms i _
        (let x = foe_mover false (λ x. absurd x) in let y = ap (foe g.kind s new) (with_stance_same g.arms i (act m g.kind g.n g.group g.arms (g.arms i))) in omega arith) (λ k. foe_look g.kind s g.arms new queues (g.arms k))

  -- the bound holds on
  pub below_moved : (m : Move) (i M : ℕ) → Below g s M → Below (moved g m i) s M
  below_moved m i M below q k = let x = below (was m i q) k in let y = foe_after m i q k in omega arith

  own_move : (m : Move) (i : ℕ) → i ≡ w → T (allowed m (g.arms i)) → (k : Bool) → (T k → T (not (held g.arms (g.arms i)))) → (T k → T (same_bit g.group s) → T (not (has (not s) (g.arms j)))) → potential s (moved g m i) w + cond k 1 0 ≤ potential s g w
  own_move m i z l k c free =
      let is : g.arms i ≡ waits s j p = ap g.arms z ∙ e in
      rw (only_steps m (g.arms i) (subst (λ y. T (may_step y)) (sym is) tt) l, z) (potential_own g inv w s j p e k (λ t. subst (λ y. T (not (held g.arms y))) is (c t)) free)

  -- any allowed move: w goes inside, or waits on and its potential does not rise
  pub move_waits : (m : Move) (i : ℕ) → T (allowed m (g.arms i)) → Entry m i w (moved g m i) ⊎ (Waiting s ((moved g m i).arms w) × (potential s (moved g m i) w ≤ potential s g w))
  move_waits m i k = ⊎_elim
      (λ x. inl x.0)
      (λ x. inr (x, ⊎_elim (λ z. let y = own_move m i z k false (λ x. absurd x) (λ x. absurd x) in omega arith) (λ ne. other_le g inv w s j p e m i ne) (cases_eq i w)))
      (move_out g inv w s j p e m i k)

  -- an allowed move: the potential falls, or the round owes what is left
  pub due_moves : (m : Move) (i : ℕ) → T (allowed m (g.arms i)) → (M : ℕ) → Below g s M → (due due' : ℕ → Type 0) → ((b : ℕ) → b ≢ i → due b → due' b) →
      Due g w s M due → (potential s (moved g m i) w + 1 ≤ potential s g w) ⊎ Due (moved g m i) w s M due'
  due_moves m i k M below due due' on (foes one f) = inr (foes one (λ q b. ⊎_elim (λ l. inl (let x = foe_after m i q b in omega arith)) (λ x. less q b (went g m i due due' on b x)) (f (was m i q) b)))
    where
      less : (q : T (same_bit (moved g m i).group s)) → (b : ℕ) → Went g m i due' b → (foe g.kind s (moved g m i).arms ((moved g m i).arms b) + 1 ≤ M) ⊎ Owed (moved g m i).arms due' b
      less q b (mine z d) = inl (subst (λ y. foe g.kind s (moved g m i).arms ((moved g m i).arms y) + 1 ≤ M) (sym z)
          (let x = foe_mover m i q true (λ t. (k, d)) in let y = below (was m i q) i in omega arith))
      less q b (frees ne u h c) = inl (subst (λ a. foe g.kind s (moved g m i).arms a + 1 ≤ M) (sym (with_stance_other g.arms i _ b ne ∙ h))
          (let x = foe_held g.kind s g.arms (moved g m i).arms u i (subst (λ a. queue g.kind s a + 1 ≤ queue g.kind s (g.arms i)) (sym (with_stance_same g.arms i _)) (queue_chooses g.kind g.n g.group g.arms s m (g.arms i) (was m i q) k c)) in
          let y = subst (λ a. foe g.kind s g.arms a ≤ M) h (below (was m i q) b) in omega arith))
      less q b (still o) = inr o
  due_moves m i k M below due due' on (self free x) = go (went g m i due due' on w x)
    where
      go : Went g m i due' w → (potential s (moved g m i) w + 1 ≤ potential s g w) ⊎ Due (moved g m i) w s M due'
      go (mine z d) = inl (own_move m i (sym z) k true (λ t. d) (λ t. free_none g.group g.arms s free j))
      go (frees ne u h c) =
          let here : j ≡ i = cc (e, h) in
          let at_w2 : p ≡ W2 = cc (e, h) in
          inl (subst (λ y. potential s (moved g m y) w + 1 ≤ potential s g w) here
          (held_falls g inv w s j p e m (λ z. ne (sym z ∙ here)) at_w2 (free_none g.group g.arms s free j) (subst (λ y. T (allowed m (g.arms y))) (sym here) k)
          (subst (λ y. T (choosing (g.arms y) || choosing (act m g.kind g.n g.group g.arms (g.arms y)))) (sym here) c)))
      go (still o) = inr (self (free_after g inv w s j p e free m i) o)

  -- at its start a round owes something
  pub due_exists : (M : ℕ) → Below g s M → (due : ℕ → Type 0) → ((b : ℕ) → 1 ≤ b → b ≤ g.n → T (not (at P.I (g.arms b))) → due b) → Due g w s M due
  due_exists M below due moves = ⊎_elim alone (λ x. some x.1.0 x.1.1 (below x.0 x.1.0)) (free_or_barred g inv s)
    where
      awake : (b : ℕ) → T (not (at P.I (g.arms b))) → due b
      awake b a = let r = inv.awake b a in moves b r.0 r.1 a

      owed : (k : ℕ) → T (not (at P.I (g.arms k))) → Owed g.arms due k
      owed k a = ⊎_elim (λ h. let y = held_by g.arms (g.arms k) h in other y.0 y.1 y.2 y.3 (awake y.1 (choosing_awake (g.arms y.1) y.3))) (λ d. own d (awake k a)) (test (held g.arms (g.arms k)))

      some : (b : ℕ) → T (has (not s) (g.arms b)) → foe g.kind s g.arms (g.arms b) ≤ M → Due g w s M due
      some b h l =
          let one : 1 ≤ M = let y = foe_some g.kind s g.arms (g.arms b) h in omega arith in
          foes one (λ q k. ⊎_elim (λ h. inr (owed k (has_awake (g.arms k) (not s) h))) (λ d. inl (let y = foe_none g.kind s g.arms (g.arms k) d in omega arith)) (test (has (not s) (g.arms k))))

      alone : Free g.group g.arms s → Due g w s M due
      alone free = self free (owed w (subst (λ a. T (not (at P.I a))) (sym e) tt))

-- at its end nothing is to come, so the bound is lower
none_owed : (arms : ℕ → Stance) (b : ℕ) → Owed arms (λ b. ⊥) b → ⊥
none_owed arms b (own d x) = x
none_owed arms b (other u c q h x) = x

pub due_ends : (g : Machine) (w : ℕ) (s : Bool) (M : ℕ) → Due g w s M (λ b. ⊥) → (M' : ℕ) × (M' + 1 ≤ M) × Below g s M'
due_ends g w s M (foes one f) = (M - 1, omega arith, λ q k. ⊎_elim (λ l. omega arith) (λ x. absurd (none_owed g.arms k x)) (f q k))
due_ends g w s M (self free x) = absurd (none_owed g.arms w x)

-- the same with due', where a move of each arm of due is to come in due' too
module _ (due due' : ℕ → Type 0) (on : (b : ℕ) → due b → due' b) where
  owed_same : (arms : ℕ → Stance) (b : ℕ) → Owed arms due b → Owed arms due' b
  owed_same arms b (own d x) = own d (on b x)
  owed_same arms b (other u c q h x) = other u c q h (on c x)

  pub due_same : (g : Machine) (w : ℕ) (s : Bool) (M : ℕ) → Due g w s M due → Due g w s M due'
  due_same g w s M (foes one f) = foes one (λ q k. ⊎_elim (λ l. inl l) (λ x. inr (owed_same g.arms k x)) (f q k))
  due_same g w s M (self free x) = self free (owed_same g.arms w x)

-- the bound at first
pub below_first : (g : Machine) (s : Bool) → Below g s (most g.kind)
below_first g s q k = foe_bound g.kind s g.arms (g.arms k)
