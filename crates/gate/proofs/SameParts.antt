-- Two gates are the same exactly if number, arm count and turns, the records of their arms, and the registers that the arms take are.
use Rattle.std.proofs.Common.{◌≡◌, ◌+◌, ◌-◌, get_or, subst, arith}
use Rattle.gate_model.specs.Arms.{no_arm}
use Rattle.gate_model.specs.SameGates.{SameGates}
use Rattle.gate_model.specs.States.{State}
use Rattle.gate_model.specs.Table.{Table}
use Rattle.gate.specs.SameParts.{SameNumbers, SameRecord, SameRecords, SameRegisters}

module _ {At : Type 0} (door : Table At) (s t : State At) where
  pub from_parts : SameNumbers s t → SameRecords door s.n s.arms t.arms → SameRegisters door s.n s.regs t.regs → SameGates door s t
  from_parts numbers records registers = record {
    but_marks = record {
      n = numbers.n;
      registers = registers;
      arms = λ i lo hi. (records (i - 1) (omega (arith, lo, hi))).progress;
      turns = numbers.turns;
    };
    number = numbers.number;
    marks = λ i lo hi. (records (i - 1) (omega (arith, lo, hi))).mark;
  }

  module _ (h : SameGates door s t) where
    pub numbers_of : SameNumbers s t
    numbers_of = record { number = h.number; n = h.but_marks.n; turns = h.but_marks.turns }

    pub records_of : SameRecords door s.n s.arms t.arms
    records_of k l =
        let back : k + 1 - 1 ≡ k = omega arith in
        subst (λ j. SameRecord s.n (get_or s.arms j (no_arm door)) (get_or t.arms j (no_arm door))) back
        (record { progress = h.but_marks.arms (k + 1) (omega arith) (omega (arith, l)); mark = h.marks (k + 1) (omega arith) (omega (arith, l)) })
