-- The layouts of both kinds of door: where an arm's cells lie, what they hold, and what an arm does at each stance.
use Rattle.std.proofs.Common.{◌≡◌, ℕ, suc, zero, ◌-◌, ◌*◌, ◌≤◌, ◌<◌, Bool, true, false, cond, eqb, ◌≢◌, T, Some, None, Option, arith}
use Rattle.std.proofs.lemmas.Bool.Decides.{nat_tests}
use Rattle.gate_model.specs.Registers.{group}
use Rattle.gate_model.specs.Arms.{side_of}
use Rattle.gate_model.specs.History.{of_group}
use Rattle.gate_model.specs.declared.access.Access.{Access}
use Rattle.gate_model.specs.declared.access.Access.TheVariants as A
use Rattle.gate_model.specs.declared.phase.Phase.TheVariants as P
use Rattle.machine.specs.Kinds.{Kind, three_bits, four_valued, WaitingPlace, W1, W2, W3, W4, W5, W6}
use Rattle.machine.proofs.Machine.{Stance, idle, d1, d2, d3, d4, d5, waits, inside, x1, x2, at, side, choosing, mygroup, flag, outcome, step_arm, turn_step, may_step}

abbrev pub bit_number : Bool → ℕ
bit_number true = 1
bit_number false = 0

abbrev pub side_bit : Option Bool → Option ℕ
side_bit (Some s) = Some (bit_number s)
side_bit None = None

-- the side in a record, as a number
abbrev pub side_number : Stance → ℕ
side_number a = side_of (side_bit (side a))

-- what an access does, told of the arms: nothing; it reads the bit; it reads cell c of arm j; it writes its own cell c; it writes the bit
pub data Deed : Type 0 where
  rest ask : Deed
  look tell : ℕ → ℕ → Deed
  turn : ℕ → Deed

-- in which stances the bit is read, and past the first exit step
abbrev pub is_d2 : Stance → Bool
is_d2 (d2 x) = true
is_d2 a = false

abbrev pub is_x2 : Stance → Bool
is_x2 (x2 u) = true
is_x2 a = false

-- the arm that a waiting arm looks at, else 0
abbrev pub looks_at : Stance → ℕ
looks_at (waits u j p) = j
looks_at a = 0

-- the bit, and cell c of the arm itself, after a deed
abbrev pub turned_by : Deed → ℕ → ℕ
turned_by (turn v) old = v
turned_by d old = old

abbrev pub told_by : ℕ → Deed → ℕ → ℕ
told_by c (tell e v) old = cond (eqb c e) v old
told_by c d old = old

-- the highest value that a register holds
abbrev pub highest : Kind → ℕ
highest three_bits = 1
highest four_valued = 3

-- how many cells an arm has: choosing, mygroup and flag, or its state alone
abbrev pub cells : Kind → ℕ
cells three_bits = 3
cells four_valued = 1

-- the register of a cell of arm i
abbrev pub cell : Kind → ℕ → ℕ → ℕ
cell three_bits zero i = 3 * i - 2
cell three_bits (suc zero) i = 3 * i - 1
cell three_bits (suc (suc c)) i = 3 * i
cell four_valued c i = i

-- the state of an arm: 3 while it is idle, 2 while it chooses, and then its side
abbrev pub state : Stance → ℕ
state (idle g) = 3
state (d1 g) = 3
state (waits s j p) = bit_number s
state (inside s o) = bit_number s
state (x1 s) = bit_number s
state (x2 s) = bit_number s
state a = 2

-- what a cell holds
abbrev pub holds : Kind → ℕ → Stance → ℕ
holds three_bits zero a = bit_number (choosing a)
holds three_bits (suc zero) a = bit_number (mygroup a)
holds three_bits (suc (suc c)) a = bit_number (flag a)
holds four_valued c a = state a

-- what a waiting arm does at a place, looking at arm j
abbrev pub looking : Kind → ℕ → WaitingPlace → Deed
looking δ j W1 = ask
looking δ j W2 = look 0 j
looking δ j W5 = ask
looking three_bits j W3 = look 1 j
looking three_bits j W4 = look 2 j
looking three_bits j W6 = look 1 j
looking four_valued j p = look 0 j

-- what an arm does; at d3 and d4, where the second kind never is, it would do as at d5
abbrev pub deed : Kind → Stance → Deed
deed δ (d2 g) = ask
deed δ (waits s j p) = looking δ j p
deed δ (x1 s) = turn (1 - bit_number s)
deed three_bits (d1 g) = tell 0 1
deed three_bits (d3 s g) = tell 1 (bit_number s)
deed three_bits (d4 s) = tell 2 1
deed three_bits (d5 s) = tell 0 0
deed three_bits (x2 s) = tell 2 0
deed four_valued (d1 g) = tell 0 2
deed four_valued (d3 s g) = tell 0 (bit_number s)
deed four_valued (d4 s) = tell 0 (bit_number s)
deed four_valued (d5 s) = tell 0 (bit_number s)
deed four_valued (x2 s) = tell 0 3
deed δ a = rest

-- the access of arm i by its deed, and the value that it reads
abbrev pub access_for : Kind → Deed → ℕ → Access
access_for δ rest i = A.Nothing
access_for δ ask i = A.Read group
access_for δ (look c j) i = A.Read (cell δ c j)
access_for δ (tell c v) i = A.Write (cell δ c i) v
access_for δ (turn v) i = A.Write group v

abbrev pub read_by_deed : Kind → Bool → (ℕ → Stance) → Deed → ℕ
read_by_deed δ β arms ask = bit_number β
read_by_deed δ β arms (look c j) = holds δ c (arms j)
read_by_deed δ β arms d = 0

-- what each deed says of the stance and of the values
pub rests : (δ : Kind) (a : Stance) → deed δ a ≡ rest → ¬ (T (may_step a))
rests δ a e k = grind arith

pub reads_group : (δ : Kind) (i : ℕ) (a : Stance) → T (at P.D a) → of_group (access_for δ (deed δ a) i) ≡ is_d2 a
reads_group δ i a h = grind (arith, nat_tests)

pub looks : (δ : Kind) (a : Stance) (c j : ℕ) → deed δ a ≡ look c j → (c < cells δ) × ((u : Bool) × (p : WaitingPlace) × (a ≡ waits u j p))
looks δ a c j e = grind arith

pub tells : (δ : Kind) (a : Stance) (c v : ℕ) → deed δ a ≡ tell c v → (c < cells δ) × (v ≤ highest δ)
tells δ a c v e = grind arith

pub turns : (δ : Kind) (a : Stance) (v : ℕ) → deed δ a ≡ turn v → v ≤ highest δ
turns δ a v e = grind arith

-- after a step's deed the cells and the bit hold what the machine says after this step
pub cells_follow : (δ : Kind) (n : ℕ) (β : Bool) (arms : ℕ → Stance) (a : Stance) (c : ℕ) → c < cells δ → T (may_step a) → holds δ c (step_arm δ n β arms a) ≡ told_by c (deed δ a) (holds δ c a)
cells_follow δ n β arms (waits u j p) c cl k = outcome (λ r. holds δ c r ≡ told_by c (deed δ (waits u j p)) (holds δ c (waits u j p))) δ n β (arms j) u (λ j p. grind arith) (grind arith) j p
cells_follow δ n β arms a c cl k = grind (arith, nat_tests)

pub bit_follows : (δ : Kind) (β : Bool) (a : Stance) → T (may_step a) → bit_number (turn_step β a) ≡ turned_by (deed δ a) (bit_number β)
bit_follows δ β a k = grind arith

-- the registers: apart from one another and from the bit
pub apart : (δ : Kind) (c e k i : ℕ) → c < cells δ → e < cells δ → 1 ≤ k → 1 ≤ i → cell δ c k ≡ cell δ e i → (c ≡ e) × (k ≡ i)
apart δ c e k i cl el kl il q = grind arith

pub past_bit : (δ : Kind) (c k : ℕ) → c < cells δ → 1 ≤ k → cell δ c k ≢ group
past_bit δ c k cl kl e = grind arith
