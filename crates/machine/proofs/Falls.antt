-- How the potential of a waiting arm changes with a move.
use Rattle.std.proofs.Common.{◌≡◌, ℕ, ◌+◌, ◌≤◌, Bool, cond, not, ◌||◌, T, eqb, ◌≢◌, sym, refl, ap, ◌∙◌, subst, arith, eqb→eq}
use Rattle.std.proofs.lemmas.Bool.Decides.{nat_tests}
use Rattle.gate_model.proofs.Bools.{same_bit, same_refl}
use Rattle.machine.specs.Kinds.{Kind, WaitingPlace, W2, soon}
use Rattle.machine.proofs.Machine.{Stance, waits, has, choosing, step_waiting, Move, step, act, allowed, with_stance, with_stance_same, with_stance_other, with_stance_each, Machine, moved}
use Rattle.machine.proofs.Invariant.{Own, Inv, Home}
use Rattle.machine.proofs.Waiting.{has_own, index_in}
use Rattle.machine.proofs.Potential.{rank, rank_of, held, most, Fit, turn_away, rank_waits, rank_act, rank_chooses, rank_turns, own_step, potential}

-- what the invariant says of each arm while one with side s waits
pub fit_of : (g : Machine) (w : ℕ) (s : Bool) → T (has s (g.arms w)) → (a : Stance) → Own g.n g.group g.arms a → Fit g.group s a
fit_of g w s h a o = grind arith

rank_bound : (δ : Kind) (e : Bool) (n w : ℕ) (s : Bool) (a : Stance) (j : ℕ) (p : WaitingPlace) → 1 ≤ j → j ≤ n → 1 ≤ w → w ≤ n → (j ≡ w → a ≡ waits s j p) → Home w (waits s j p) → rank δ e n w s a j p + most δ ≤ soon δ n
rank_bound δ e n w s a j p lo hi wlo whi own home = grind (arith, nat_tests)

rank_some : (δ : Kind) (e : Bool) (n w : ℕ) (s : Bool) (a : Stance) (j : ℕ) (p : WaitingPlace) → 1 ≤ rank δ e n w s a j p
rank_some δ e n w s a j p = grind arith

-- the rank does not rise where the arm w itself looks no worse
rank_keeps : (δ : Kind) (e : Bool) (n w : ℕ) (s : Bool) (arms : ℕ → Stance) (r : Stance) → ((j : ℕ) (p : WaitingPlace) → rank δ e n w s r j p ≤ rank δ e n w s (arms w) j p) →
    (x : Stance) → rank_of δ e n w s (with_stance arms w r) x ≤ rank_of δ e n w s arms x
rank_keeps δ e n w s arms r h (waits u j p) = with_stance_each (λ k a. rank δ e n w s a j p ≤ rank δ e n w s (arms k) j p) arms w r (h j p) (λ k. omega arith) j
rank_keeps δ e n w s arms r h x = grind arith

module _ (g : Machine) (inv : Inv g) (w : ℕ) (s : Bool) (j : ℕ) (p : WaitingPlace) (e : g.arms w ≡ waits s j p) where
  pub fit : (i : ℕ) → Fit g.group s (g.arms i)
  fit i = fit_of g w s (has_own g inv w s j p e) (g.arms i) (inv.own i)

  pub away : (m : Move) (i : ℕ) → T (same_bit (moved g m i).group s) → T (same_bit g.group s)
  away m i = turn_away m g.group s (g.arms i) (fit i)

  among : w ≤ g.n
  among = (inv.range w s (has_own g inv w s j p e)).1

  -- another arm moves
  pub other_le : (m : Move) (i : ℕ) → i ≢ w → potential s (moved g m i) w ≤ potential s g w
  other_le m i ne = rw (with_stance_other g.arms i _ w (λ q. ne (sym q)), e)
      (with_stance_each (λ k a. rank g.kind (same_bit (moved g m i).group s) g.n w s a j p ≤ rank g.kind (same_bit g.group s) g.n w s (g.arms k) j p) g.arms i _
      (rank_act g.kind g.n g.group g.arms s w m (g.arms i) j p (fit i) (away m i)) (λ k. rank_turns g.kind (same_bit g.group s) (same_bit (moved g m i).group s) g.n w s (g.arms k) j p (away m i)) j)

  -- the arm moves for which it waits at W2
  pub held_falls : (m : Move) → j ≢ w → p ≡ W2 → (T (same_bit g.group s) → T (not (has (not s) (g.arms j)))) → T (allowed m (g.arms j)) → T (choosing (g.arms j) || choosing (act m g.kind g.n g.group g.arms (g.arms j))) →
      potential s (moved g m j) w + 1 ≤ potential s g w
  held_falls m ne at_w2 free k c = rw (with_stance_other g.arms j _ w (λ q. ne (sym q)), e, with_stance_same g.arms j _, at_w2) (rank_chooses g.kind g.n g.group g.arms s w m (g.arms j) j (fit j) free k c)

  -- the waiting arm's own step
  pub potential_own : (k : Bool) → (T k → T (not (held g.arms (waits s j p)))) → (T k → T (same_bit g.group s) → T (not (has (not s) (g.arms j)))) → potential s (moved g step w) w + cond k 1 0 ≤ potential s g w
  potential_own k c h =
      let E : Bool = same_bit g.group s in
      let r : Stance = step_waiting g.kind g.n g.group (g.arms j) s j p in
      let home : T (eqb j w) → T (has s (g.arms j)) × T (not (choosing (g.arms j))) = λ t. subst (λ a. T (has s a) × T (not (choosing a))) (sym (ap g.arms (eqb→eq j w t) ∙ e)) (same_refl s, tt) in
      let own = own_step g.kind g.n g.group g.arms s j w k p among home c h E refl in
      let keeps = rank_keeps g.kind E g.n w s g.arms r (λ i q. rw e (rank_waits g.kind g.n g.group g.arms s (g.arms j) E w s j i p q)) r in
      rw (with_stance_same g.arms w _, e) (omega arith)

  pub potential_bound : potential s g w + most g.kind ≤ soon g.kind g.n
  potential_bound =
      let i = index_in g inv w s j p e in
      rw e (rank_bound g.kind (same_bit g.group s) g.n w s (g.arms j) j p i.0 i.1 (inv.range w s (has_own g inv w s j p e)).0 among (λ q. ap g.arms q ∙ e) (subst (Home w) e (inv.home w)))

  pub potential_some : 1 ≤ potential s g w
  potential_some = rw e (rank_some g.kind (same_bit g.group s) g.n w s (g.arms j) j p)
