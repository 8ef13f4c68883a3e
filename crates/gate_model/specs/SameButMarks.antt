-- When two gates of one door are the same but for their numbers and the marks of passes out.
-- Their banks may be of any two kinds, and may hold anything past the registers that the arms take.
use Rattle.std.specs.Prelude.{◌≡◌, ℕ, ◌<◌, ◌≤◌, false, slice_index, slice_index_or}
use Rattle.gate_model.specs.Table.{Table}
use Rattle.gate_model.specs.States.{State, arm_at}
use Rattle.gate_model.specs.declared.arm.Arm.{Arm}

-- two records with the same position, side and visits, and the same counts and notes of the arms 1 to n
pub record SameProgress {At : Type 0} (n : ℕ) (a b : Arm At) : Type 0 where
  pub position : a.position ≡ b.position
  pub side : a.side ≡ b.side
  pub visits : a.visits ≡ b.visits
  pub row : (k : ℕ) → k < n → slice_index a.row k ≡ slice_index b.row k
  pub notes : (k : ℕ) → k < n → slice_index_or a.notes k false ≡ slice_index_or b.notes k false

-- the same arm count and turns, the same values in the registers of the arms (with 0 arms no register is compared), the same progress of each arm
pub record SameButMarks {At : Type 0} (door : Table At) (s t : State At) : Type 0 where
  pub n : s.n ≡ t.n
  pub registers : 1 ≤ s.n → (q : ℕ) → q < door.room s.n → slice_index s.regs q ≡ slice_index t.regs q
  pub arms : (i : ℕ) → 1 ≤ i → i ≤ s.n → SameProgress s.n (arm_at door s i) (arm_at door t i)
  pub turns : s.turns ≡ t.turns
