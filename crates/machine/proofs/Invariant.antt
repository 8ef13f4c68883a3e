-- The invariant of the machine: who is inside, and what a waiting arm has passed.
use Rattle.std.proofs.Common.{◌≡◌, ℕ, ◌≤◌, Bool, true, false, not, T, ◌⊎◌, inl, sym, refl, subst, ⊎_elim, arith, eqb→eq}
use Rattle.std.proofs.lemmas.Bool.Decides.{nat_tests}
use Rattle.gate_model.specs.declared.phase.Phase.TheVariants as P
use Rattle.gate_model.proofs.Bools.{same_bit, same_refl, test}
use Rattle.machine.specs.Kinds.{Kind, WaitingPlace, W1, W2, W4, W5, W6}
use Rattle.machine.proofs.Machine.{Stance, waits, inside, x1, x2, at, has, choosing, step_waiting, step_arm, turn_step, Move, step, act, turn, with_stance, with_stance_each, Machine, moved_to, moved}

-- a place past W2
abbrev pub late : WaitingPlace → Bool
late W1 = false
late W2 = false
late p = true

-- no arm has the side other than s, or the group differs from s
abbrev pub Free : Bool → (ℕ → Stance) → Bool → Type 0
Free β arms s = (k : ℕ) → T (has (not s) (arms k)) → T (same_bit β (not s))

-- what the waiting arm at (j, p) with side s has passed
abbrev pub GonePast : Bool → (ℕ → Stance) → Bool → ℕ → WaitingPlace → Type 0
GonePast β arms s j p = T (same_bit β s) → (b : ℕ) → T (has (not s) (arms b)) → (j ≤ b) × (T (late p) → b ≡ j → T (not (choosing (arms b))))

abbrev pub Own : ℕ → Bool → (ℕ → Stance) → Stance → Type 0
Own n β arms (waits s j p) = (1 ≤ j) × (j ≤ n) × GonePast β arms s j p
Own n β arms (inside s o) = Free β arms s
Own n β arms (x1 s) = Free β arms s
Own n β arms (x2 s) = T (same_bit β (not s))
Own n β arms a = Unit {0}

abbrev pub Ranged : ℕ → (ℕ → Stance) → Type 0
Ranged n arms = (k : ℕ) (t : Bool) → T (has t (arms k)) → (1 ≤ k) × (k ≤ n)

-- an arm that is not idle is one of the n
abbrev pub Awake : ℕ → (ℕ → Stance) → Type 0
Awake n arms = (k : ℕ) → T (not (at P.I (arms k))) → (1 ≤ k) × (k ≤ n)

abbrev pub far : WaitingPlace → Bool
far W4 = true
far W5 = true
far W6 = true
far p = false

-- at its own index an arm waits at W1 to W3 only
abbrev pub Home : ℕ → Stance → Type 0
Home k (waits s j p) = j ≡ k → T (not (far p))
Home k a = Unit {0}

pub record Inv (g : Machine) : Type 0 where
  pub home : (k : ℕ) → Home k (g.arms k)
  pub awake : Awake g.n g.arms
  pub range : Ranged g.n g.arms
  pub own : (k : ℕ) → Own g.n g.group g.arms (g.arms k)

-- a step of X1, which turns the group
abbrev pub turns_group : Move → Stance → Bool
turns_group step (x1 s) = true
turns_group m a = false

pub turn_same : (m : Move) (β : Bool) (a : Stance) → T (not (turns_group m a)) → turn m β a ≡ β
turn_same m β a d = grind arith

-- the step of a waiting arm keeps what it has passed, and an arm goes inside only while it is free to
module _ (n : ℕ) (β : Bool) (arms : ℕ → Stance) (range : Ranged n arms) where
  pub wait_own : (δ : Kind) (s : Bool) (j : ℕ) (p : WaitingPlace) → Own n β arms (waits s j p) → Own n β arms (step_waiting δ n β (arms j) s j p)
  wait_own δ s j W1 (lo, hi, past) = grind (arith, past)
  wait_own δ s j p (lo, hi, past) = grind (arith, nat_tests, range, past)

  -- a move that leaves the group, seen with the arms as they were
  act_own : (m : Move) (δ : Kind) → 1 ≤ n → (a : Stance) → T (not (turns_group m a)) → Own n β arms a → Own n β arms (act m δ n β arms a)
  act_own step δ pos (waits s j p) d h = wait_own δ s j p h
  act_own m δ pos a d h = grind (arith, range)

-- what a move makes of an arm: where it has a side after the move, it had it before, and chooses only if it did before; or the side is the group
abbrev pub NothingNew : Bool → Stance → Stance → Type 0
NothingNew β a a' = (t : Bool) → T (has t a') → (T (has t a) × (T (choosing a') → T (choosing a))) ⊎ T (same_bit t β)

act_nothing_new : (m : Move) (δ : Kind) (n : ℕ) (β : Bool) (arms : ℕ → Stance) (a : Stance) → NothingNew β a (act m δ n β arms a)
act_nothing_new m δ n β arms a t h = grind arith

pub moved_nothing_new : (g : Machine) (m : Move) (i k : ℕ) → NothingNew g.group (g.arms k) ((moved g m i).arms k)
moved_nothing_new g m i = with_stance_each (λ k a. NothingNew g.group (g.arms k) a) g.arms i _ (act_nothing_new m g.kind g.n g.group g.arms (g.arms i)) (λ k t x. inl (x, λ c. c))

-- what holds of the other arms goes on to hold while the group stays the same
keep : (n : ℕ) (β : Bool) (arms arms' : ℕ → Stance) → ((k : ℕ) → NothingNew β (arms k) (arms' k)) → (a : Stance) → Own n β arms a → Own n β arms' a
keep n β arms arms' seen a h = grind (arith, seen)

act_home : (m : Move) (δ : Kind) (n : ℕ) (β : Bool) (arms : ℕ → Stance) (i : ℕ) (a : Stance) → arms i ≡ a → Home i a → Home i (act m δ n β arms a)
act_home step δ n β arms i (waits s j W1) e h = grind arith
act_home step δ n β arms i (waits s j p) e h = grind arith
act_home m δ n β arms i a e h = grind arith

-- the invariant with another stance of arm i and another group, from what has to hold of these
inv_to : (g : Machine) → Inv g → (b : Bool) (i : ℕ) (a : Stance) → 1 ≤ i → i ≤ g.n → Home i a → Own g.n b (with_stance g.arms i a) a → ((k : ℕ) → Own g.n b (with_stance g.arms i a) (g.arms k)) → Inv (moved_to g b i a)
inv_to g inv b i a lo hi home own others = record {
  home = with_stance_each Home g.arms i a home inv.home;
  awake = with_stance_each (λ k x. T (not (at P.I x)) → (1 ≤ k) × (k ≤ g.n)) g.arms i a (λ h. (lo, hi)) inv.awake;
  range = with_stance_each (λ k x. (t : Bool) → T (has t x) → (1 ≤ k) × (k ≤ g.n)) g.arms i a (λ t h. (lo, hi)) inv.range;
  own = with_stance_each (λ k x. Own g.n b (with_stance g.arms i a) x) g.arms i a own others;
}

inv_still : (g : Machine) → Inv g → (m : Move) (i : ℕ) → 1 ≤ i → i ≤ g.n → T (not (turns_group m (g.arms i))) →
    Inv (moved_to g g.group i (act m g.kind g.n g.group g.arms (g.arms i)))
inv_still g inv m i lo hi d =
    let last = keep g.n g.group g.arms (moved g m i).arms (moved_nothing_new g m i) in
    inv_to g inv g.group i _ lo hi (act_home m g.kind g.n g.group g.arms i (g.arms i) refl (inv.home i))
    (last _ (act_own g.n g.group g.arms inv.range m g.kind (omega arith) (g.arms i) d (inv.own i))) (λ k. last (g.arms k) (inv.own k))

module _ (n : ℕ) (β t : Bool) (arms : ℕ → Stance) (i : ℕ) (e : arms i ≡ x1 t) (free : Free β arms t) where
  -- an arm that goes from x1 t to x2 t gets no other side, and does not come to choose
  look_back : (k : ℕ) (u : Bool) → T (has u (with_stance arms i (x2 t) k)) → T (has u (arms k)) × (T (choosing (with_stance arms i (x2 t) k)) → T (choosing (arms k)))
  look_back k u = let r = eqb→eq k i in grind (arith, nat_tests)

  turn_other : (k : ℕ) (a : Stance) → arms k ≡ a → Own n β arms a → Own n (not t) (with_stance arms i (x2 t)) a
  turn_other k (waits s j p) q h = (h.0, h.1, λ c b hb. let old = look_back b (not s) hb in let f = free k in let r = h.2 (grind arith) b old.0 in grind arith)
  turn_other k (inside s o) q h = λ k' hk. let f = free k in let r = h i in grind arith
  turn_other k (x1 s) q h = λ k' hk. let f = free k in let r = h i in grind arith
  turn_other k a q h = let f = free k in grind arith

inv_turn : (g : Machine) → Inv g → (i : ℕ) (a : Stance) → g.arms i ≡ a → T (turns_group step a) → 1 ≤ i → i ≤ g.n →
    Inv (moved_to g (turn_step g.group a) i (step_arm g.kind g.n g.group g.arms a))
inv_turn g inv i (x1 t) e x lo hi =
    let free : Free g.group g.arms t = subst (Own g.n g.group g.arms) e (inv.own i) in
    inv_to g inv (not t) i (x2 t) lo hi tt (same_refl (not t)) (λ k. turn_other g.n g.group t g.arms i e free k (g.arms k) refl (inv.own k))
inv_turn g inv i a e x lo hi = absurd x

-- every move keeps the invariant
pub inv_moved : (g : Machine) → Inv g → (m : Move) (i : ℕ) → 1 ≤ i → i ≤ g.n → Inv (moved g m i)
inv_moved g inv step i lo hi = ⊎_elim
    (λ x. inv_turn g inv i (g.arms i) refl x lo hi)
    (λ d. subst (λ b. Inv (moved_to g b i (step_arm g.kind g.n g.group g.arms (g.arms i)))) (sym (turn_same step g.group (g.arms i) d)) (inv_still g inv step i lo hi d))
    (test (turns_group step (g.arms i)))
inv_moved g inv m i lo hi = inv_still g inv m i lo hi tt
