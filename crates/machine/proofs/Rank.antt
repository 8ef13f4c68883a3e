-- How many own steps a waiting arm still needs while it is free to go and no other arm is in its doorway.
use Rattle.std.proofs.Common.{◌≡◌, ℕ, ◌+◌, ◌-◌, ◌*◌, ◌≤◌, Bool, true, false, cond, not, T, eqb, ◌≢◌, sym, ap, ◌∙◌, subst, ⊎_elim, arith, eqb→eq}
use Rattle.std.proofs.lemmas.Bool.Decides.{nat_tests}
use Rattle.gate_model.specs.declared.phase.Phase.TheVariants as P
use Rattle.gate_model.proofs.Bools.{same_bit, same_refl, same_sym, opposite, differ, test, none_of}
use Rattle.machine.specs.Kinds.{Kind, three_bits, four_valued, WaitingPlace, W1, W2, W3, W4, W5, W6}
use Rattle.machine.proofs.Machine.{Stance, waits, at, has, mygroup, step_waiting, Move, step, act, with_stance, with_stance_same, with_stance_other, with_stance_each, Machine, moved}
use Rattle.machine.proofs.Invariant.{Free, Inv, Home, moved_nothing_new}
use Rattle.machine.proofs.Potential.{quick}
use Rattle.machine.proofs.Falls.{away}

-- own steps still needed, at an index of another arm (its mygroup is the side, or not) and at the own index
abbrev abroad_rank : Bool → WaitingPlace → ℕ
abroad_rank q W1 = 6
abroad_rank q W2 = 5
abroad_rank q W3 = 4
abroad_rank q W4 = 3
abroad_rank q W5 = cond q 2 5
abroad_rank q W6 = cond q 1 4

abbrev home_rank : WaitingPlace → ℕ
home_rank W1 = 3
home_rank W2 = 2
home_rank p = 1

abbrev here : Bool → Bool → WaitingPlace → ℕ
here t q p = cond t (home_rank p) (abroad_rank q p)

-- the four-valued door looks at no mygroup
abbrev mine : Kind → Bool → Stance → Bool
mine three_bits s a = same_bit (mygroup a) s
mine four_valued s a = false

abbrev needed : Kind → Bool → ℕ → Bool → ℕ → Stance → ℕ → WaitingPlace → ℕ
needed δ true n s w a j p = 6 * (n - j) + 3 + here (eqb j w) (mine δ s a) p
needed δ false n s w a j p = quick 0 p

abbrev needed_of : Kind → Bool → ℕ → Bool → ℕ → (ℕ → Stance) → Stance → ℕ
needed_of δ e n s w arms (waits u j p) = needed δ e n s w (arms j) j p
needed_of δ e n s w arms a = 0

-- an own step takes one of them
module _ (n : ℕ) (s : Bool) (w : ℕ) (arms : ℕ → Stance) (j : ℕ) (lo : 1 ≤ j) (hi : j ≤ n) (calm : T (not (at P.D (arms j)))) (own : T (eqb j w) → T (same_bit (mygroup (arms j)) s)) where
  needed_own : (δ : Kind) (β : Bool) (p : WaitingPlace) → Home w (waits s j p) → (T (same_bit β s) → T (not (has (not s) (arms j)))) → needed_of δ (same_bit β s) n s w arms (step_waiting δ n β (arms j) s j p) + 1 ≤ needed δ (same_bit β s) n s w (arms j) j p
  needed_own three_bits β p home h = grind (arith, nat_tests)
  needed_own four_valued β p home h = grind (arith, nat_tests)

needed_bound : (δ : Kind) (e : Bool) (n : ℕ) (s : Bool) (w : ℕ) (a : Stance) (j : ℕ) (p : WaitingPlace) → 1 ≤ w → w ≤ n → 1 ≤ j → j ≤ n → needed δ e n s w a j p ≤ 8 * n
needed_bound δ e n s w a j p wlo whi lo hi = grind (arith, nat_tests)

-- another arm's move
needed_others : (δ : Kind) (e e' : Bool) (n : ℕ) (s : Bool) (w : ℕ) (a a' : Stance) (j : ℕ) (p : WaitingPlace) → (T e' → T e) → (T e → T (mine δ s a) → T (mine δ s a')) → needed δ e' n s w a' j p ≤ needed δ e n s w a j p
needed_others δ e e' n s w a a' j p f h = grind arith

mine_act : (m : Move) (δ : Kind) (n : ℕ) (β : Bool) (arms : ℕ → Stance) (s : Bool) (a : Stance) → T (not (has (not s) a)) → T (mine δ s a) → T (mine δ s (act m δ n β arms a))
mine_act m δ n β arms s a h q = grind arith

pub free_none : (β : Bool) (arms : ℕ → Stance) (s : Bool) → Free β arms s → (k : ℕ) → T (same_bit β s) → T (not (has (not s) (arms k)))
free_none β arms s free k q = none_of (has (not s) (arms k)) (λ h. opposite β s q (same_sym β (not s) (free k h)))

needed_keeps : (δ : Kind) (e : Bool) (n : ℕ) (s : Bool) (w : ℕ) (arms : ℕ → Stance) (r x : Stance) → needed_of δ e n s w (with_stance arms w r) x ≤ needed_of δ e n s w arms x
needed_keeps δ e n s w arms r x = grind arith

-- for an arm of the machine
abbrev pub needs : Machine → Bool → ℕ → ℕ
needs g s w = needed_of g.kind (same_bit g.group s) g.n s w g.arms (g.arms w)

module _ (g : Machine) (inv : Inv g) (w : ℕ) (s : Bool) (j : ℕ) (p : WaitingPlace) (e : g.arms w ≡ waits s j p) (free : Free g.group g.arms s) where
  pub free_after : (m : Move) (i : ℕ) → Free (moved g m i).group (moved g m i).arms s
  free_after m i k h = ⊎_elim
      (λ q. let q' = away g inv w s j p e m i q in absurd (⊎_elim (λ x. opposite g.group s q' (same_sym g.group (not s) (free k x.0))) (opposite g.group s q') (moved_nothing_new g m i k (not s) h)))
      (λ d. differ (moved g m i).group s d)
      (test (same_bit (moved g m i).group s))

  pub needs_other : (m : Move) (i : ℕ) → i ≢ w → needs (moved g m i) s w ≤ needs g s w
  needs_other m i ne =
      let E : Bool = same_bit g.group s in
      let E' : Bool = same_bit (moved g m i).group s in
      let arms' : ℕ → Stance = (moved g m i).arms in
      let x = needed_others g.kind E E' g.n s w (g.arms j) (arms' j) j p (away g inv w s j p e m i)
      (λ q. with_stance_each (λ k a. T (mine g.kind s (g.arms k)) → T (mine g.kind s a)) g.arms i _ (mine_act m g.kind g.n g.group g.arms s (g.arms i) (free_none g.group g.arms s free i q)) (λ k h. h) j) in
      rw (with_stance_other g.arms i _ w (λ q. ne (sym q)), e) x

  pub needs_mine : 1 ≤ j → j ≤ g.n → T (not (at P.D (g.arms j))) → needs (moved g step w) s w + 1 ≤ needs g s w
  needs_mine lo hi calm =
      let r : Stance = step_waiting g.kind g.n g.group (g.arms j) s j p in
      let x = needed_keeps g.kind (same_bit g.group s) g.n s w g.arms r r in
      let y = needed_own g.n s w g.arms j lo hi calm (λ t. subst (λ z. T (same_bit (mygroup z) s)) (sym (ap g.arms (eqb→eq j w t) ∙ e)) (same_refl s)) g.kind g.group p (subst (Home w) e (inv.home w)) (free_none g.group g.arms s free j) in
      rw (with_stance_same g.arms w _, e) (omega arith)

  pub needs_some : 1 ≤ needs g s w
  needs_some = rw e (grind arith)

  pub needs_bound : 1 ≤ w → w ≤ g.n → 1 ≤ j → j ≤ g.n → needs g s w ≤ 8 * g.n
  needs_bound wlo whi lo hi = rw e (needed_bound g.kind (same_bit g.group s) g.n s w (g.arms j) j p wlo whi lo hi)
