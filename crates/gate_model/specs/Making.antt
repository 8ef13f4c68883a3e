-- What a gate is made of, how many arms it gets, and its registers and memory then.
use Rattle.std.specs.Prelude.{ℕ, ◌<◌, ◌≤◌, zero, suc, min, if◌then◌else◌, List, ◌++◌, drop, length, map, ◌==◌, nat_le, nat_lt}
use Rattle.std.specs.List.{range_with_len}
use Rattle.bank.specs.Lent.{Lent, touched}
use Rattle.gate_model.specs.Limits.{arm_limit}
use Rattle.gate_model.specs.Table.{Table}

-- the memory that the bank writes, the highest value of a register, the gate's number, how many arms are wanted, and the values of the bank
pub record Making : Type 0 where
  pub memory : Lent
  pub high : ℕ
  pub number : ℕ
  pub wanted : ℕ
  pub regs : List ℕ

module _ {At : Type 0} (door : Table At) where
  -- the largest arm count up to k whose registers are among len, or 0
  unfoldable pub largest : ℕ → ℕ → ℕ
  largest len zero = 0
  largest len (suc k) = if nat_le (door.room (suc k)) len then suc k else largest len k

  -- the arm count of a gate over a bank of len registers, whose highest value is high
  abbrev pub arms_for : ℕ → ℕ → ℕ → ℕ
  arms_for high len wanted = if nat_lt high door.needed then 0 else largest len (min wanted arm_limit)

  abbrev pub arms_of : Making → ℕ
  arms_of making = arms_for making.high (length making.regs) making.wanted

  -- n is the largest arm count that there can be: no more than are wanted and no more than the limit, and the bank has what
  -- n arms need; any larger such count needs more registers than the bank has
  pub record IsLargest (high len wanted n : ℕ) : Type 0 where
    pub within : n ≤ wanted
    pub few : n ≤ arm_limit
    pub fits : 1 ≤ n → (door.room n ≤ len) × (door.needed ≤ high)
    pub most : (k : ℕ) → n < k → k ≤ wanted → k ≤ arm_limit → door.needed ≤ high → len < door.room k

  -- the registers once making has written the first k
  abbrev pub cleared : ℕ → List ℕ → List ℕ
  cleared k regs = map door.first (range_with_len 0 k) ++ drop k regs

  -- the registers of a gate just made
  abbrev pub made_regs : ℕ → List ℕ → List ℕ
  made_regs n regs = if n == 0 then regs else cleared (door.room n) regs

  -- the memory of the bank once making has written the first k registers, each once, from register 0 on
  abbrev pub cleared_memory : ℕ → Lent → Lent
  cleared_memory zero memory = memory
  cleared_memory (suc k) memory = touched (cleared_memory k memory) k (door.first k)

  abbrev pub made_memory : ℕ → Lent → Lent
  made_memory n memory = if n == 0 then memory else cleared_memory (door.room n) memory
