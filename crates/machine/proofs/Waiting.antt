-- An arm that waits: what a move makes of it, and when it goes inside.
use Rattle.std.proofs.Common.{◌≡◌, ℕ, zero, suc, ◌≤◌, Bool, false, not, T, ◌≢◌, ◌⊎◌, sym, refl, ap, ◌∙◌, subst, inl, inr, ⊎_elim, arith}
use Rattle.std.proofs.lemmas.Bool.{cases_eq}
use Rattle.gate_model.specs.declared.phase.Phase.TheVariants as P
use Rattle.gate_model.proofs.Bools.{same_bit, same_refl, test, clash, differ}
use Rattle.machine.specs.Kinds.{WaitingPlace}
use Rattle.machine.proofs.Machine.{Stance, waits, inside, at, has, step_waiting, outcome, step_arm, Move, step, is_step, may_step, allowed, with_stance_same, with_stance_other, Machine, moved}
use Rattle.machine.proofs.Invariant.{Free, Own, Inv, wait_own}

abbrev pub Waiting : Bool → Stance → Type 0
Waiting s a = (j : ℕ) × (p : WaitingPlace) × (a ≡ waits s j p)

-- an arm that may step makes no other move
pub only_steps : (m : Move) (a : Stance) → T (may_step a) → T (allowed m a) → m ≡ step
only_steps m a k h = grind arith

-- an arm in W waits with a side
pub phase_waits : (a : Stance) → T (at P.W a) → (s : Bool) × Waiting s a
phase_waits (waits s j p) h = (s, (j, p, refl))
phase_waits a h = absurd h

pub not_both : (a : Stance) (s : Bool) → T (has s a) → T (has (not s) a) → ⊥
not_both a s h k = grind arith

pub D_awake : (a : Stance) → T (at P.D a) → T (not (at P.I a))
D_awake a h = grind arith

pub has_awake : (a : Stance) (t : Bool) → T (has t a) → T (not (at P.I a))
has_awake a t h = grind arith

-- a search through the arms
pub find : (f : ℕ → Bool) (n : ℕ) → ((k : ℕ) × (1 ≤ k) × (k ≤ n) × T (f k)) ⊎ ((k : ℕ) → 1 ≤ k → k ≤ n → T (not (f k)))
find f zero = inr (λ k lo hi. absurd (omega arith))
find f (suc n) = ⊎_elim
    (λ x. inl (suc n, omega arith, omega arith, x))
    (λ x. ⊎_elim (λ y. inl (y.0, y.1, (let z = y.2 in omega arith), y.3)) (λ y. inr (λ k lo hi. let z = y k in let c = cases_eq k (suc n) in grind arith)) (find f n))
    (test (f (suc n)))

-- the group is s and an arm has the other side; where it is not so, arms with side s are free to go inside
abbrev pub Barred : Machine → Bool → Type 0
Barred g s = T (same_bit g.group s) × ((k : ℕ) × T (has (not s) (g.arms k)))

pub free_or_barred : (g : Machine) → Inv g → (s : Bool) → Free g.group g.arms s ⊎ Barred g s
free_or_barred g inv s = ⊎_elim
    (λ x. ⊎_elim (λ q. inr (q, (x.0, x.3))) (λ d. inl (λ k h. differ g.group s d)) (test (same_bit g.group s)))
    (λ none. inl (λ k h. let r = inv.range k (not s) h in absurd (clash (has (not s) (g.arms k)) h (none k r.0 r.1))))
    (find (λ k. has (not s) (g.arms k)) g.n)

-- a move by which w goes inside
abbrev pub Entry : Move → ℕ → ℕ → Machine → Type 0
Entry m i w g' = (i ≡ w) × T (is_step m) × T (at P.F (g'.arms w))

module _ (g : Machine) (inv : Inv g) (w : ℕ) (s : Bool) (j : ℕ) (p : WaitingPlace) (e : g.arms w ≡ waits s j p) where
  pub has_own : T (has s (g.arms w))
  has_own = subst (λ y. T (has s y)) (sym e) (same_refl s)

  own_here : Own g.n g.group g.arms (waits s j p)
  own_here = subst (Own g.n g.group g.arms) e (inv.own w)

  pub index_in : (1 ≤ j) × (j ≤ g.n)
  index_in = (own_here.0, own_here.1)

  -- another arm moves
  pub other_waits : (m : Move) (i : ℕ) → i ≢ w → Waiting s ((moved g m i).arms w)
  other_waits m i ne = (j, p, with_stance_other g.arms i _ w (λ q. ne (sym q)) ∙ e)

  own_result : (moved g step w).arms w ≡ step_waiting g.kind g.n g.group (g.arms j) s j p
  own_result = with_stance_same g.arms w _ ∙ ap (step_arm g.kind g.n g.group g.arms) e

  -- it steps itself
  pub own_out : Waiting s ((moved g step w).arms w) ⊎ ((moved g step w).arms w ≡ inside s false)
  own_out = subst (λ y. Waiting s y ⊎ (y ≡ inside s false)) (sym own_result) (outcome (λ r. Waiting s r ⊎ (r ≡ inside s false)) g.kind g.n g.group (g.arms j) s (λ j p. inl (j, p, refl)) (inr refl) j p)

  -- the entry rule: it goes inside only while the group differs from its side or no arm has the other side
  pub own_free : (moved g step w).arms w ≡ inside s false → Free g.group g.arms s
  own_free q = subst (Own g.n g.group g.arms) (sym own_result ∙ q) (wait_own g.n g.group g.arms inv.range g.kind s j p own_here)

  -- any allowed move: w goes inside and was free to, or waits on
  pub move_out : (m : Move) (i : ℕ) → T (allowed m (g.arms i)) → (Entry m i w (moved g m i) × Free g.group g.arms s) ⊎ Waiting s ((moved g m i).arms w)
  move_out m i k = ⊎_elim
      (λ z. rw (only_steps m (g.arms i) (subst (λ y. T (may_step y)) (sym (ap g.arms z ∙ e)) tt) k, z) (⊎_elim (λ a. inr a) (λ a. inl ((refl, tt, rw a tt), own_free a)) own_out))
      (λ ne. inr (other_waits m i ne))
      (cases_eq i w)
