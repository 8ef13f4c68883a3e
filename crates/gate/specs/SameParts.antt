-- The parts in which two gates are compared.
use Rattle.std.specs.Prelude.{◌≡◌, ℕ, ◌<◌, ◌≤◌, List, slice_index, slice_index_or}
use Rattle.gate_model.specs.Arms.{no_arm}
use Rattle.gate_model.specs.SameButMarks.{SameProgress}
use Rattle.gate_model.specs.States.{State}
use Rattle.gate_model.specs.Table.{Table}
use Rattle.gate_model.specs.declared.arm.Arm.{Arm}

module _ {At : Type 0} where
  -- two gates with the same number, arm count and turns
  pub record SameNumbers (s t : State At) : Type 0 where
    pub number : s.number ≡ t.number
    pub n : s.n ≡ t.n
    pub turns : s.turns ≡ t.turns

  -- two records with the same progress, as far as n arms go, and the same mark
  pub record SameRecord (n : ℕ) (a b : Arm At) : Type 0 where
    pub progress : SameProgress n a b
    pub mark : a.out ≡ b.out

module _ {At : Type 0} (door : Table At) where
  -- two tables whose first n records are the same, as far as n arms go
  abbrev pub SameRecords : ℕ → List (Arm At) → List (Arm At) → Type 0
  SameRecords n arms other = (k : ℕ) → k < n → SameRecord n (slice_index_or arms k (no_arm door)) (slice_index_or other k (no_arm door))

  -- two banks with the same values in the registers that n arms take; with 0 arms these are none
  abbrev pub SameRegisters : ℕ → List ℕ → List ℕ → Type 0
  SameRegisters n regs other = 1 ≤ n → (q : ℕ) → q < door.room n → slice_index regs q ≡ slice_index other q
