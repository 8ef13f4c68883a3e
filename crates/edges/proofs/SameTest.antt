-- A test of whether two gates of one door are the same, by a test of whether two positions are.
use Rattle.std.proofs.Common.{◌≡◌, ℕ, zero, suc, ◌<◌, ◌≤◌, Bool, true, false, ◌&&◌, eqb, List, get_or, Some, None, Option, refl, ap, arith, not-suc-le-zero}
use Rattle.std.proofs.Math.Bool.{beq}
use Rattle.std.specs.Bool.{Decides}
use Rattle.std.specs.Cmp.{booleans_Decides}
use Rattle.std.proofs.lemmas.Bool.Decides.{Decides-and, Decides-below_and, Decides-eqb, Decides-like}
use Rattle.gate_model.specs.SameButMarks.{SameProgress}
use Rattle.gate_model.specs.SameGates.{SameGates}
use Rattle.gate_model.specs.States.{State, arm_at}
use Rattle.gate_model.specs.Table.{Table}
use Rattle.gate_model.specs.declared.arm.Arm.{Arm}

-- whether each number below n passes
abbrev all_below : (ℕ → Bool) → ℕ → Bool
all_below p zero = true
all_below p (suc n) = p n && all_below p n

-- whether each arm from 1 to n passes
abbrev all_arms : (ℕ → Bool) → ℕ → Bool
all_arms p n = all_below (λ k. p (suc k)) n

all_below-Decides : (p : ℕ → Bool) (P : ℕ → Type 0) → ((k : ℕ) → Decides (p k) (P k)) → (n : ℕ) → Decides (all_below p n) ((k : ℕ) → k < n → P k)
all_below-Decides p P each = Decides-below_and p P (all_below p) each refl (λ n. refl)

all_arms-Decides : (p : ℕ → Bool) (P : ℕ → Type 0) → ((i : ℕ) → Decides (p i) (P i)) → (n : ℕ) → Decides (all_arms p n) ((i : ℕ) → 1 ≤ i → i ≤ n → P i)
all_arms-Decides p P each n =
    Decides-like (all_arms p n) at_arm (λ h k l. h (suc k) (omega arith) l)
    (all_below-Decides (λ k. p (suc k)) (λ k. P (suc k)) (λ k. each (suc k)) n)
  where
    at_arm : ((k : ℕ) → k < n → P (suc k)) → (i : ℕ) → 1 ≤ i → i ≤ n → P i
    at_arm h zero some l = absurd (not-suc-le-zero some)
    at_arm h (suc k) some l = h k l

-- what is asked only where there are arms
abbrev if_arms : ℕ → Bool → Bool
if_arms zero b = true
if_arms (suc n) b = b

if_arms-Decides : {P : Type 0} (n : ℕ) (b : Bool) → Decides b P → Decides (if_arms n b) (1 ≤ n → P)
if_arms-Decides zero b d = (λ e some. absurd (not-suc-le-zero some), λ h. refl)
if_arms-Decides (suc n) b d = (λ e some. d.0 e, λ h. d.1 (h (omega arith)))

abbrev same_side : Option ℕ → Option ℕ → Bool
same_side (Some s) (Some t) = eqb s t
same_side None None = true
same_side s t = false

same_side-Decides : (s t : Option ℕ) → Decides (same_side s t) (s ≡ t)
same_side-Decides (Some s) (Some t) = Decides-like (eqb s t) (ap Some) (λ e. cc) (Decides-eqb s t)
same_side-Decides (Some s) None = (λ e. cc, λ e. cc)
same_side-Decides None (Some t) = (λ e. cc, λ e. cc)
same_side-Decides None None = (λ e. refl, λ e. refl)

module _ {At : Type 0} (door : Table At) (same_position : At → At → Bool) where
  -- the parts in which gates of n arms are compared
  abbrev same_registers : ℕ → List ℕ → List ℕ → Bool
  same_registers n regs regs' = if_arms n (all_below (λ q. eqb (get_or regs q 0) (get_or regs' q 0)) (door.room n))

  abbrev same_progress : ℕ → Arm At → Arm At → Bool
  same_progress n a b =
      same_position a.position b.position
      && (same_side a.side b.side
      && (eqb a.visits b.visits
      && (all_below (λ k. eqb (get_or a.row k 0) (get_or b.row k 0)) n
      && all_below (λ k. beq (get_or a.notes k false) (get_or b.notes k false)) n)))

  abbrev pub same_test : State At → State At → Bool
  same_test s t =
      eqb s.n t.n
      && (same_registers s.n s.regs t.regs
      && (all_arms (λ i. same_progress s.n (arm_at door s i) (arm_at door t i)) s.n
      && (eqb s.turns t.turns
      && (eqb s.number t.number
      && all_arms (λ i. beq (arm_at door s i).out (arm_at door t i).out) s.n))))

  -- it tells, if that of positions does
  module _ (told_apart : (p q : At) → Decides (same_position p q) (p ≡ q)) where
    same_progress-Decides : (n : ℕ) (a b : Arm At) → Decides (same_progress n a b) (SameProgress n a b)
    same_progress-Decides n a b =
        Decides-like (same_progress n a b)
        (λ h. record { position = h.0; side = h.1.0; visits = h.1.1.0; row = h.1.1.1.0; notes = h.1.1.1.1 })
        (λ h. (h.position, (h.side, (h.visits, (h.row, h.notes)))))
        (Decides-and _ _ (told_apart a.position b.position)
        (Decides-and _ _ (same_side-Decides a.side b.side)
        (Decides-and _ _ (Decides-eqb a.visits b.visits)
        (Decides-and _ _ (all_below-Decides _ _ (λ k. Decides-eqb (get_or a.row k 0) (get_or b.row k 0)) n)
        (all_below-Decides _ _ (λ k. booleans_Decides (get_or a.notes k false) (get_or b.notes k false)) n)))))

    pub same_test-Decides : (s t : State At) → Decides (same_test s t) (SameGates door s t)
    same_test-Decides s t =
        Decides-like (same_test s t)
        (λ h. record { but_marks = record { n = h.0; registers = h.1.0; arms = h.1.1.0; turns = h.1.1.1.0 }; number = h.1.1.1.1.0; marks = h.1.1.1.1.1 })
        (λ h. (h.but_marks.n, (h.but_marks.registers, (h.but_marks.arms, (h.but_marks.turns, (h.number, h.marks))))))
        (Decides-and _ _ (Decides-eqb s.n t.n)
        (Decides-and _ _ (if_arms-Decides s.n _ (all_below-Decides _ _ (λ q. Decides-eqb (get_or s.regs q 0) (get_or t.regs q 0)) (door.room s.n)))
        (Decides-and _ _ (all_arms-Decides _ _ (λ i. same_progress-Decides s.n (arm_at door s i) (arm_at door t i)) s.n)
        (Decides-and _ _ (Decides-eqb s.turns t.turns)
        (Decides-and _ _ (Decides-eqb s.number t.number)
        (all_arms-Decides _ _ (λ i. booleans_Decides (arm_at door s i).out (arm_at door t i).out) s.n))))))
