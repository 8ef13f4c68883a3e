-- The machine that a gate simulates: what the registers say of an arm is part of the arm's own state.
use Rattle.std.proofs.Common.{◌≡◌, ℕ, ◌+◌, Bool, true, false, cond, not, ◌&&◌, eqb, ltb, ◌≢◌, Some, None, Option, sym, subst, arith, eqb→eq}
use Rattle.std.proofs.lemmas.Bool.Decides.{nat_tests}
use Rattle.gate_model.specs.Phases.{same_phase}
use Rattle.gate_model.specs.declared.phase.Phase.{Phase}
use Rattle.gate_model.specs.declared.phase.Phase.TheVariants as P
use Rattle.gate_model.proofs.Bools.{same_bit, by}
use Rattle.machine.specs.Kinds.{Kind, three_bits, four_valued, WaitingPlace, W1, W2, W3, W4, W5, W6}

-- an arm: where it stands, its side, and what its mygroup register holds where that is not its side
pub data Stance : Type 0 where
  idle d1 d2 : Bool → Stance
  d3 : Bool → Bool → Stance
  d4 d5 : Bool → Stance
  waits : Bool → ℕ → WaitingPlace → Stance
  inside : Bool → Bool → Stance
  x1 x2 : Bool → Stance

abbrev pub phase : Stance → Phase
phase (idle g) = P.I
phase (waits s j p) = P.W
phase (inside s o) = P.F
phase (x1 s) = P.X
phase (x2 s) = P.X
phase d = P.D

-- whether an arm is in a phase
abbrev pub at : Phase → Stance → Bool
at p a = same_phase (phase a) p

-- the side, from the end of D2 to the end of X2
abbrev pub side : Stance → Option Bool
side (d3 s g) = Some s
side (d4 s) = Some s
side (d5 s) = Some s
side (waits s j p) = Some s
side (inside s o) = Some s
side (x1 s) = Some s
side (x2 s) = Some s
side a = None

abbrev pub is_side : Bool → Option Bool → Bool
is_side t (Some s) = same_bit t s
is_side t None = false

-- the arm has side t
abbrev pub has : Bool → Stance → Bool
has t a = is_side t (side a)

-- whether its pass is out
abbrev pub out : Stance → Bool
out (inside s o) = o
out a = false

-- its three registers at the three-bit door
abbrev pub choosing : Stance → Bool
choosing (d2 g) = true
choosing (d3 s g) = true
choosing (d4 s) = true
choosing (d5 s) = true
choosing a = false

abbrev pub mygroup : Stance → Bool
mygroup (idle g) = g
mygroup (d1 g) = g
mygroup (d2 g) = g
mygroup (d3 s g) = g
mygroup (d4 s) = s
mygroup (d5 s) = s
mygroup (waits s j p) = s
mygroup (inside s o) = s
mygroup (x1 s) = s
mygroup (x2 s) = s

abbrev pub flag : Stance → Bool
flag (d5 s) = true
flag (waits s j p) = true
flag (inside s o) = true
flag (x1 s) = true
flag (x2 s) = true
flag a = false

-- its one register at the four-valued door is 1 - s
abbrev pub faces : Bool → Stance → Bool
faces s (waits u j p) = same_bit (not s) u
faces s (inside u o) = same_bit (not s) u
faces s (x1 u) = same_bit (not s) u
faces s (x2 u) = same_bit (not s) u
faces s a = false

-- a waiting arm's step: β is the group, b the arm at its index
abbrev pub next : ℕ → Bool → ℕ → Stance
next n s j = cond (ltb j n) (waits s (j + 1) W1) (inside s false)

abbrev pub step_waiting : Kind → ℕ → Bool → Stance → Bool → ℕ → WaitingPlace → Stance
step_waiting δ n β b s j W1 = cond (same_bit β s) (waits s j W2) (inside s false)
step_waiting δ n β b s j W2 = cond (choosing b) (waits s j W2) (waits s j W3)
step_waiting three_bits n β b s j W3 = cond (same_bit (mygroup b) s) (next n s j) (waits s j W4)
step_waiting three_bits n β b s j W4 = cond (flag b) (waits s j W5) (next n s j)
step_waiting three_bits n β b s j W5 = cond (same_bit β s) (waits s j W6) (next n s j)
step_waiting three_bits n β b s j W6 = cond (same_bit (mygroup b) s) (next n s j) (waits s j W4)
step_waiting four_valued n β b s j W3 = cond (faces s b) (waits s j W4) (next n s j)
step_waiting four_valued n β b s j W4 = cond (faces s b) (waits s j W5) (next n s j)
step_waiting four_valued n β b s j W5 = cond (same_bit β s) (waits s j W4) (next n s j)
step_waiting four_valued n β b s j W6 = cond (faces s b) (waits s j W5) (next n s j)

-- it waits on, or goes inside
pub outcome : (P : Stance → Type 0) (δ : Kind) (n : ℕ) (β : Bool) (b : Stance) (s : Bool) → ((j : ℕ) (p : WaitingPlace) → P (waits s j p)) → P (inside s false)
    → (j : ℕ) (p : WaitingPlace) → P (step_waiting δ n β b s j p)
outcome P δ n β b s on in' j p = grind (arith, on)

-- the step of an arm; of the four-valued kind it leads from d2 to d5, and at d3 and d4, where an arm of this kind never is, it is that of d5
abbrev pub step_arm : Kind → ℕ → Bool → (ℕ → Stance) → Stance → Stance
step_arm δ n β arms (d1 g) = d2 g
step_arm three_bits n β arms (d2 g) = d3 β g
step_arm four_valued n β arms (d2 g) = d5 β
step_arm three_bits n β arms (d3 s g) = d4 s
step_arm four_valued n β arms (d3 s g) = waits s 1 W1
step_arm three_bits n β arms (d4 s) = d5 s
step_arm four_valued n β arms (d4 s) = waits s 1 W1
step_arm δ n β arms (d5 s) = waits s 1 W1
step_arm δ n β arms (waits s j p) = step_waiting δ n β (arms j) s j p
step_arm δ n β arms (x1 s) = x2 s
step_arm δ n β arms (x2 s) = idle s
step_arm δ n β arms a = a

-- the group after it
abbrev pub turn_step : Bool → Stance → Bool
turn_step β (x1 s) = not s
turn_step β a = β

pub data Move : Type 0 where
  begin step admit leave : Move

abbrev pub is_step : Move → Bool
is_step step = true
is_step m = false

abbrev pub is_begin : Move → Bool
is_begin begin = true
is_begin m = false

-- the other moves, of an arm that may make them
abbrev pub visit : Move → Stance → Stance
visit begin (idle g) = d1 g
visit admit (inside s o) = inside s true
visit leave (inside s true) = x1 s
visit m a = a

abbrev pub act : Move → Kind → ℕ → Bool → (ℕ → Stance) → Stance → Stance
act step δ n β arms a = step_arm δ n β arms a
act m δ n β arms a = visit m a

abbrev pub turn : Move → Bool → Stance → Bool
turn step β a = turn_step β a
turn m β a = β

-- which moves an arm may make
abbrev pub may_step : Stance → Bool
may_step a = not (at P.I a) && not (at P.F a)

abbrev pub allowed : Move → Stance → Bool
allowed begin a = at P.I a
allowed step a = may_step a
allowed admit a = at P.F a && not (out a)
allowed leave a = out a

-- a function changed at one place
abbrev pub with_stance : (ℕ → Stance) → ℕ → Stance → ℕ → Stance
with_stance f i a k = cond (eqb k i) a (f k)

pub with_stance_same : (f : ℕ → Stance) (i : ℕ) (a : Stance) → with_stance f i a i ≡ a
with_stance_same f i a = grind (arith, nat_tests)

pub with_stance_other : (f : ℕ → Stance) (i : ℕ) (a : Stance) (k : ℕ) → k ≢ i → with_stance f i a k ≡ f k
with_stance_other f i a k ne = grind (arith, nat_tests)

-- what holds of the new stance at its place, and of the old one at every place, holds of what is at each place now
pub with_stance_each : (P : ℕ → Stance → Type 0) (f : ℕ → Stance) (i : ℕ) (a : Stance) → P i a → ((k : ℕ) → P k (f k)) → (k : ℕ) → P k (with_stance f i a k)
with_stance_each P f i a one all k = by (P k) (eqb k i) a (f k) (λ q. subst (λ j. P j a) (sym (eqb→eq k i q)) one) (λ q. all k)

-- the kind of door, how many arms, the group, the arms (from 1)
pub record Machine : Type 0 where
  pub kind : Kind
  pub n : ℕ
  pub group : Bool
  pub arms : ℕ → Stance

abbrev pub moved_to : Machine → Bool → ℕ → Stance → Machine
moved_to g b i a = record { kind = g.kind; n = g.n; group = b; arms = with_stance g.arms i a }

abbrev pub moved : Machine → Move → ℕ → Machine
moved g m i = moved_to g (turn m g.group (g.arms i)) i (act m g.kind g.n g.group g.arms (g.arms i))
