-- The state of a gate.
use Rattle.std.specs.Prelude.{ℕ, ◌-◌, Bool, if◌then◌else◌, ◌&&◌, List, replicate, ◌==◌, nat_le, slice_index, slice_index_or, slice_set}
use Rattle.bank.specs.Lent.{Lent}
use Rattle.gate_model.specs.Limits.{arm_limit}
use Rattle.gate_model.specs.Registers.{group}
use Rattle.gate_model.specs.Table.{Table}
use Rattle.gate_model.specs.Arms.{fresh, no_arm}
use Rattle.gate_model.specs.Making.{Making, made_memory, made_regs, arms_of}
use Rattle.gate_model.specs.declared.arm.Arm.{Arm}
use Rattle.gate_model.specs.declared.phase.Phase.{Phase}

-- memory: the memory that the bank writes; high: the highest value of a register; number: the gate number;
-- n: how many arms; regs: the values of the bank; arms: the records, that of arm i at index i - 1, also past arm n;
-- turns: how often the bit turned since the making
pub record State (At : Type 0) : Type 0 where
  pub memory : Lent
  pub high : ℕ
  pub number : ℕ
  pub n : ℕ
  pub regs : List ℕ
  pub arms : List (Arm At)
  pub turns : ℕ

module _ {At : Type 0} where
  abbrev pub is_arm : State At → ℕ → Bool
  is_arm s i = nat_le 1 i && nat_le i s.n

  -- the state s with these registers and records
  abbrev pub with_table : List ℕ → List (Arm At) → State At → State At
  with_table regs arms s = record s { regs = regs; arms = arms }

  -- the state s with a as the record of arm i
  abbrev pub with_arm : ℕ → Arm At → State At → State At
  with_arm i a s = with_table s.regs (slice_set s.arms (i - 1) a) s

  -- the bit, which is the value of register 0; 0 where the gate has no arms
  abbrev pub bit_of : State At → ℕ
  bit_of s = if s.n == 0 then 0 else slice_index s.regs group

module _ {At : Type 0} (door : Table At) where
  -- the state of a gate just made
  abbrev pub made : Making → State At
  made making =
      record {
        memory = made_memory door (arms_of door making) making.memory;
        high = making.high;
        number = making.number;
        n = arms_of door making;
        regs = made_regs door (arms_of door making) making.regs;
        arms = replicate arm_limit (fresh door);
        turns = 0;
      }

  abbrev pub arm_at : State At → ℕ → Arm At
  arm_at s i = slice_index_or s.arms (i - 1) (no_arm door)

  abbrev pub phase_at : State At → ℕ → Phase
  phase_at s i = door.phase (arm_at s i).position
