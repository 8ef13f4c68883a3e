-- The text of a report and of a fault, and the memory that takes it.
use Rattle.std.specs.Prelude.{ℕ, ◌+◌, Bool, if◌then◌else◌, List, ◌++◌, length, Some, None, Ok, Err, codes, decimal, Option, Result, nat_le}
use Rattle.gate_model.specs.Phases.{letter_of}
use Rattle.gate_model.specs.Table.{Table}
use Rattle.gate_model.specs.States.{State, arm_at, phase_at, bit_of}
use Rattle.gate.specs.Answers.{largest_count}
use Rattle.schedule.specs.Faults.{fault_number, fault_place, fault_order, fault_layer}
use Rattle.schedule.specs.declared.fault.Layer.{Layer}
use Rattle.schedule.specs.declared.fault.Layer.TheVariants as L
use Rattle.schedule.specs.declared.fault.PlayFault.{PlayFault}
use Rattle.schedule.specs.declared.fault.PlayFault.TheVariants.{ShortMemory}
use Rattle.play.specs.Limits.{report_room}
use Rattle.play.specs.Text.{lines, overwritten}

-- a side, or a dash where it is missing
abbrev pub side_text : Option ℕ → List ℕ
side_text (Some s) = decimal s
side_text None = codes "-"

-- the first line of a report: arm count, orders, refused orders and the bit
abbrev pub first_line : {At : Type 0} → State At → ℕ → ℕ → List ℕ
first_line s orders refused =
    codes "arms " ++ decimal s.n ++ codes " orders " ++ decimal orders
    ++ codes " refused " ++ decimal refused ++ codes " bit " ++ decimal (bit_of s) ++ codes "\n"

module _ {At : Type 0} (door : Table At) where
  -- the line of arm k + 1
  abbrev pub arm_line : State At → ℕ → List ℕ
  arm_line s k =
      decimal (k + 1) ++ codes " " ++ letter_of (phase_at door s (k + 1))
      ++ codes " " ++ side_text (arm_at door s (k + 1)).side ++ codes " " ++ decimal (arm_at door s (k + 1)).visits
      ++ codes " " ++ decimal (largest_count (arm_at door s (k + 1)).row s.n) ++ codes "\n"

  abbrev pub report_text : State At → ℕ → ℕ → List ℕ
  report_text s orders refused = first_line s orders refused ++ lines (arm_line s) s.n

abbrev pub layer_word : Layer → List ℕ
layer_word L.Number = codes "number"
layer_word L.Schedule = codes "schedule"
layer_word L.Play = codes "play"

abbrev pub fault_text : PlayFault → List ℕ
fault_text f =
    codes "fault " ++ decimal (fault_number f) ++ codes " at " ++ decimal (fault_place f)
    ++ codes " order " ++ decimal (fault_order f) ++ codes " layer " ++ layer_word (fault_layer f) ++ codes "\n"

-- memory takes a text if it has room for any report
abbrev pub takes : List ℕ → Bool
takes memory = nat_le report_room (length memory)

abbrev pub text_answer : List ℕ → List ℕ → Result ℕ PlayFault
text_answer memory text = if takes memory then Ok (length text) else Err ShortMemory

abbrev pub text_memory : List ℕ → List ℕ → List ℕ
text_memory memory text = if takes memory then overwritten memory text else memory
