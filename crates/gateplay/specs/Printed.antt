-- What the program prints, and the status that it ends with.
use Rattle.std.specs.Prelude.{ℕ, List, Ok, Err, Result, replicate}
use Rattle.bank.specs.Bits.{bit_registers}
use Rattle.bank.specs.Lent.{unlogged}
use Rattle.play.specs.Playing.{play_text}
use Rattle.play.specs.Reports.{fault_text}
use Rattle.schedule.specs.Reading.{Contents}
use Rattle.schedule.specs.declared.fault.PlayFault.{PlayFault}
use Rattle.three_bits.specs.Positions.{three_bits}

-- the report of a play through the three-bit door over a bank of bits that are all 0, or the line of the fault
abbrev pub shown : Result Contents PlayFault → List ℕ
shown (Ok c) = play_text three_bits (unlogged 0) 1 (replicate bit_registers 0) c
shown (Err fault) = fault_text fault

-- 0 after a play, 1 after a fault
abbrev pub status_of : Result Contents PlayFault → ℕ
status_of (Ok c) = 0
status_of (Err fault) = 1
