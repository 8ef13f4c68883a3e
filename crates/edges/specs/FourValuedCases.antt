-- The edge cases of the four-valued door, over a bank of as many bytes as the most arms take.
use Rattle.std.specs.Prelude.{ℕ, List, ◌∷◌, ◌++◌, replicate}
use Rattle.gate_model.specs.Limits.{arm_limit}
use Rattle.machine.specs.Kinds as K
use Rattle.four_valued.specs.Positions.{four_valued}
use Rattle.four_valued.specs.declared.position.FourValued.{FourValued}
use Rattle.edges.specs.Cases.{Case, gives, bars}
use Rattle.edges.specs.DoorCases.{cases}
use Rattle.edges.specs.SameCases.{same_cases}

abbrev pub highest : ℕ
highest = 255

abbrev pub registers : List ℕ
registers = replicate (four_valued.room arm_limit) 9

-- another bank: its values are 3 at most
abbrev other_highest : ℕ
other_highest = 3

abbrev other_registers : List ℕ
other_registers = replicate 12 1

abbrev pub table : List (Case FourValued)
table =
    gives highest 101 120 100
    ∷ gives highest 100 120 99
    ∷ gives highest 33 40 32
    ∷ gives highest 32 40 31
    ∷ gives highest 1 40 0
    ∷ gives 3 101 120 100
    ∷ gives 3 33 40 32
    ∷ bars 2
    ∷ cases K.four_valued four_valued highest registers
    ++ same_cases K.four_valued four_valued highest registers other_highest other_registers
