-- When two gates of one door are the same. Their banks may be of any two kinds, and may hold anything past the registers that the arms take.
use Rattle.std.specs.Prelude.{◌≡◌, ℕ, ◌≤◌}
use Rattle.gate_model.specs.SameButMarks.{SameButMarks}
use Rattle.gate_model.specs.Table.{Table}
use Rattle.gate_model.specs.States.{State, arm_at}

-- the same but for number and marks, and the same in these too; phases and indices are equal, since positions are
pub record SameGates {At : Type 0} (door : Table At) (s t : State At) : Type 0 where
  pub but_marks : SameButMarks door s t
  pub number : s.number ≡ t.number
  pub marks : (i : ℕ) → 1 ≤ i → i ≤ s.n → (arm_at door s i).out ≡ (arm_at door t i).out
