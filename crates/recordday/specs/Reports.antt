-- The report of a recorded gate.
use Rattle.std.specs.Prelude.{ℕ, List, length, take, Ok, Err, Result}
use Rattle.gate_model.specs.Table.{Table}
use Rattle.play.specs.Reports.{report_text}
use Rattle.recorder.specs.Recorders.{Recording}
use Rattle.schedule.specs.Reading.{Contents, says}
use Rattle.schedule.specs.declared.fault.PlayFault.{PlayFault}

-- how many orders a file says; 0 where it has a fault
abbrev pub order_total : Result Contents PlayFault → ℕ
order_total (Ok c) = length c.orders
order_total (Err fault) = 0

-- the report of a recorder's gate, with as many orders as the file at the start of the memory says, and none refused
abbrev pub recorded_report : {At : Type 0} → Table At → Recording At → List ℕ → List ℕ
recorded_report door r memory = report_text door r.gate (order_total (says (take r.written memory))) 0
