-- The edge cases of numbers and files, and of the three-bit door over a bit bank just made.
use Rattle.std.specs.Prelude.{ℕ, List, [], ◌∷◌, ◌++◌, replicate}
use Rattle.bank.specs.Bits.{bit_registers}
use Rattle.machine.specs.Kinds as K
use Rattle.three_bits.specs.Positions.{three_bits}
use Rattle.three_bits.specs.declared.position.ThreeBits.{ThreeBits}
use Rattle.edges.specs.Cases.{Case, writes, reads, opens, fails, tells, gives}
use Rattle.edges.specs.DoorCases.{cases}
use Rattle.edges.specs.SameCases.{same_cases, register_cases}

abbrev pub highest : ℕ
highest = 1

abbrev pub registers : List ℕ
registers = replicate bit_registers 0

-- another bank: bytes, and more of them than any arms take
abbrev other_highest : ℕ
other_highest = 255

abbrev other_registers : List ℕ
other_registers = replicate 310 9

abbrev pub table : List (Case ThreeBits)
table =
    writes 127 (0x7F ∷ [])
    ∷ writes 128 (0x80 ∷ 0x01 ∷ [])
    ∷ writes 16383 (0xFF ∷ 0x7F ∷ [])
    ∷ reads (0x7F ∷ []) 127
    ∷ reads (0x80 ∷ 0x01 ∷ []) 128
    ∷ reads (0xFF ∷ 0x7F ∷ []) 16383
    ∷ fails (0x80 ∷ 0x00 ∷ []) 12 0 0 "number"
    ∷ fails (0x80 ∷ []) 11 0 0 "number"
    ∷ fails (0xFF ∷ 0xFF ∷ []) 13 0 0 "number"
    ∷ fails [] 11 0 0 "number"
    ∷ opens (0x20 ∷ []) 32
    ∷ opens (0x21 ∷ []) 33
    ∷ opens (0x64 ∷ []) 100
    ∷ fails (0x65 ∷ []) 14 0 0 "schedule"
    ∷ fails (0x00 ∷ []) 14 0 0 "schedule"
    ∷ fails (0x02 ∷ 0x07 ∷ []) 15 1 1 "schedule"
    ∷ fails (0x02 ∷ 0x04 ∷ 0x80 ∷ 0x00 ∷ []) 12 2 2 "number"
    ∷ tells (0x02 ∷ 0x04 ∷ 0x80 ∷ 0x00 ∷ []) "fault 12 at 2 order 2 layer number\n"
    ∷ gives highest 301 120 100
    ∷ gives highest 300 120 99
    ∷ gives highest bit_registers 120 100
    ∷ gives highest 97 40 32
    ∷ gives highest 96 40 31
    ∷ gives highest 3 40 0
    ∷ cases K.three_bits three_bits highest registers
    ++ same_cases K.three_bits three_bits highest registers other_highest other_registers
    ++ register_cases K.three_bits three_bits highest registers other_highest other_registers
