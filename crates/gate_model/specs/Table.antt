-- The table of a door: the positions of its arms, the one access at each, and the next position by the value just read.
use Rattle.std.specs.Prelude.{ℕ, Bool}
use Rattle.gate_model.specs.declared.access.Access.{Access}
use Rattle.gate_model.specs.declared.phase.Phase.{Phase}

-- the table of a door whose positions are At
pub record Table (At : Type 0) : Type 0 where
  -- the position where an arm rests, where a begun visit starts, and where an arm that leaves goes
  pub idle : At
  pub entry : At
  pub exit : At
  -- the phase of a position
  pub phase : At → Phase
  -- whether the access at a position is the doorway's read of the bit
  pub reads_bit : At → Bool
  -- whether an arm at a position has made its first exit step
  pub turned : At → Bool
  -- the arm that a waiting arm at this position looks at, else 0
  pub index : At → ℕ
  -- the one access of arm i, with its side as a number, at a position
  pub access : ℕ → ℕ → At → Access
  -- the next position, in a gate of n arms, of an arm with a side that has read v
  pub next : ℕ → ℕ → ℕ → At → At
  -- the least that the bank's highest value may be
  pub needed : ℕ
  -- how many registers n arms take
  pub room : ℕ → ℕ
  -- what making writes to a register
  pub first : ℕ → ℕ
  -- within how many rounds a waiting arm is inside, in a gate of n arms
  pub rounds : ℕ → ℕ
