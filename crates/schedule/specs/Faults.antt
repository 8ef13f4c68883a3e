-- A fault's number, word, place, order and layer.
use Rattle.std.specs.Prelude.{ℕ, codes, List}
use Rattle.schedule.specs.declared.fault.NumberFault.{NumberFault}
use Rattle.schedule.specs.declared.fault.NumberFault.TheVariants.{Cut, Padded, Large}
use Rattle.schedule.specs.declared.fault.ScheduleFault.{ScheduleFault}
use Rattle.schedule.specs.declared.fault.ScheduleFault.TheVariants.{Number, ArmCount, UnknownOrder}
use Rattle.schedule.specs.declared.fault.PlayFault.{PlayFault}
use Rattle.schedule.specs.declared.fault.PlayFault.TheVariants.{LongFile, ShortMemory, Schedule, Full}
use Rattle.schedule.specs.declared.fault.Layer.{Layer}
use Rattle.schedule.specs.declared.fault.Layer.TheVariants as L

abbrev pub fault_number : PlayFault → ℕ
fault_number LongFile = 9
fault_number ShortMemory = 10
fault_number (Schedule (Number (Cut place) order)) = 11
fault_number (Schedule (Number (Padded place) order)) = 12
fault_number (Schedule (Number (Large place) order)) = 13
fault_number (Schedule ArmCount) = 14
fault_number (Schedule (UnknownOrder place order)) = 15
fault_number Full = 16

-- the word that a fault prints: a fault that is carried prints its own
abbrev pub number_fault_word : NumberFault → List ℕ
number_fault_word (Cut place) = codes "cut"
number_fault_word (Padded place) = codes "padded"
number_fault_word (Large place) = codes "large"

abbrev pub schedule_fault_word : ScheduleFault → List ℕ
schedule_fault_word (Number fault order) = number_fault_word fault
schedule_fault_word ArmCount = codes "arm count"
schedule_fault_word (UnknownOrder place order) = codes "unknown order"

abbrev pub fault_word : PlayFault → List ℕ
fault_word LongFile = codes "long file"
fault_word ShortMemory = codes "short memory"
fault_word (Schedule fault) = schedule_fault_word fault
fault_word Full = codes "full"

-- the place of the faulty number's first byte, from 0; 0 too where no number is faulty
abbrev pub fault_place : PlayFault → ℕ
fault_place (Schedule (Number (Cut place) order)) = place
fault_place (Schedule (Number (Padded place) order)) = place
fault_place (Schedule (Number (Large place) order)) = place
fault_place (Schedule (UnknownOrder place order)) = place
fault_place _ = 0

-- the count of the faulty number, the arm count being 0; 0 too where no number is faulty
abbrev pub fault_order : PlayFault → ℕ
fault_order (Schedule (Number fault order)) = order
fault_order (Schedule (UnknownOrder place order)) = order
fault_order _ = 0

abbrev pub fault_layer : PlayFault → Layer
fault_layer (Schedule (Number fault order)) = L.Number
fault_layer (Schedule _) = L.Schedule
fault_layer _ = L.Play
