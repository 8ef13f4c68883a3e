-- Gates over two banks that are the same, and gates that differ in one part and so are not, at both doors.
use Rattle.std.specs.Prelude.{ℕ, ◌+◌, ◌-◌, ◌*◌, false, List, [], ◌∷◌, ◌++◌, replicate, slice_index, slice_index_or, slice_set}
use Rattle.machine.specs.Kinds.{Kind}
use Rattle.gate_model.specs.Table.{Table}
use Rattle.gate_model.specs.Calls.{after}
use Rattle.gate_model.specs.States.{State, arm_at, with_arm}
use Rattle.gate_model.specs.declared.arm.Arm.{Arm}
use Rattle.gate_model.specs.declared.call.Call.TheVariants.{Admit as admit}
use Rattle.edges.specs.Cases.{Case, matches, differs, gate_after, numbered_after}
use Rattle.edges.specs.DoorCases.{doorway, both_inside, both_gone, two_again}

module _ {At : Type 0} where
  -- the record b with one part of the record a: its position, side, visits, mark, count of arm k or note of arm k
  abbrev position : Arm At → Arm At → Arm At
  position a b = record b { position = a.position }

  abbrev side : Arm At → Arm At → Arm At
  side a b = record b { side = a.side }

  abbrev visits : Arm At → Arm At → Arm At
  visits a b = record b { visits = a.visits }

  abbrev mark : Arm At → Arm At → Arm At
  mark a b = record b { out = a.out }

  abbrev count : ℕ → Arm At → Arm At → Arm At
  count k a b = record b { row = slice_set b.row (k - 1) (slice_index a.row (k - 1)) }

  abbrev note : ℕ → Arm At → Arm At → Arm At
  note k a b = record b { notes = slice_set b.notes (k - 1) (slice_index_or a.notes (k - 1) false) }

  -- the gate t with one part of the gate s: its number, arm count, turns or register q
  abbrev number : State At → State At → State At
  number s t = record t { number = s.number }

  abbrev arm_count : State At → State At → State At
  arm_count s t = record t { n = s.n }

  abbrev turns : State At → State At → State At
  turns s t = record t { turns = s.turns }

  abbrev register : ℕ → State At → State At → State At
  register q s t = record t { regs = slice_set t.regs q (slice_index s.regs q) }

  -- two gates are not the same, and would be if the second had this part of the first: they differ in it alone
  abbrev differ_in : (State At → State At → State At) → State At → State At → List (Case At)
  differ_in part s t = differs s t ∷ matches s (part s t) ∷ []

-- a file without orders
abbrev no_orders : List ℕ
no_orders = 0x02 ∷ []

-- of a door of some kind; each story is of two arms
module _ (kind : Kind) where
  -- arm i begins a visit and ends its doorway
  abbrev comes : ℕ → List ℕ
  comes i = (4 * i) ∷ replicate (doorway kind) (4 * i + 1)

  -- arm i waits until it is inside: 7 steps are enough in these stories; those that are too many are refused, and alter nothing
  abbrev goes_inside : ℕ → List ℕ
  goes_inside i = replicate 7 (4 * i + 1)

  -- arm i is let go and leaves
  abbrev leaves : ℕ → List ℕ
  leaves i = (4 * i + 2) ∷ (4 * i + 1) ∷ (4 * i + 1) ∷ []

  -- arm i visits alone
  abbrev visit : ℕ → List ℕ
  visit i = comes i ++ goes_inside i ++ leaves i

  -- 1 and 2 visit with one side: 2 ends its doorway while 1 is inside, and goes inside when 1 has left, so that the bit turns once
  abbrev shared_visit : List ℕ
  shared_visit = comes 1 ++ goes_inside 1 ++ comes 2 ++ leaves 1 ++ goes_inside 2 ++ leaves 2

  -- 1 waits
  abbrev one_comes : List ℕ
  one_comes = 0x02 ∷ comes 1

  -- then it makes one read, and has the next place, with the same index
  abbrev next_place : List ℕ
  next_place = one_comes ++ 0x05 ∷ []

  -- or three, and has the same place with the next index
  abbrev next_index : List ℕ
  next_index = one_comes ++ replicate 3 0x05

  -- 2 is let go; 1 reads the bit and then 2 turns it
  abbrev reads_before : List ℕ
  reads_before = 0x02 ∷ comes 2 ++ goes_inside 2 ++ 0x0A ∷ 0x04 ∷ 0x05 ∷ 0x05 ∷ 0x09 ∷ []

  -- or 2 turns it and then 1 reads it
  abbrev reads_after : List ℕ
  reads_after = 0x02 ∷ comes 2 ++ goes_inside 2 ++ 0x0A ∷ 0x09 ∷ 0x04 ∷ 0x05 ∷ 0x05 ∷ []

  -- 1 visits alone
  abbrev one_visits : List ℕ
  one_visits = 0x02 ∷ visit 1

  -- or both visit with one side
  abbrev both_visit : List ℕ
  both_visit = 0x02 ∷ shared_visit

  -- each visits twice alone, so that the bit turns four times, and 2 waits
  abbrev four_turns : List ℕ
  four_turns = 0x02 ∷ visit 1 ++ visit 1 ++ visit 2 ++ visit 2 ++ comes 2

  -- or both visit twice with one side, so that it turns twice, and 2 waits
  abbrev two_turns : List ℕ
  two_turns = 0x02 ∷ shared_visit ++ shared_visit ++ comes 2

  -- 1 goes inside while 2 waits
  abbrev inside_meanwhile : List ℕ
  inside_meanwhile = 0x02 ∷ comes 1 ++ comes 2 ++ goes_inside 1

  -- or before 2 comes
  abbrev inside_before : List ℕ
  inside_before = 0x02 ∷ comes 1 ++ goes_inside 1 ++ comes 2

  -- 2 begins once 1 has ended its doorway
  abbrev begins_after : List ℕ
  begins_after = 0x02 ∷ comes 1 ++ comes 2

  -- or before that
  abbrev begins_before : List ℕ
  begins_before = 0x02 ∷ 0x08 ∷ comes 1 ++ replicate (doorway kind) 0x09

  -- 1 visits, then 2 with side 1, and then 1 waits with side 0
  abbrev one_then_two : List ℕ
  one_then_two = 0x02 ∷ visit 1 ++ visit 2 ++ comes 1

  -- or 2 visits with side 0, then 1, and then 1 waits with side 0
  abbrev two_then_one : List ℕ
  two_then_one = 0x02 ∷ visit 2 ++ visit 1 ++ comes 1

  -- of the door itself and two banks
  module _ {At : Type 0} (door : Table At) (highest : ℕ) (registers : List ℕ) (highest' : ℕ) (registers' : List ℕ) where
    -- a gate over the first bank after the orders of a file, and one over the second
    abbrev first : ℕ → List ℕ → State At
    first = gate_after door highest registers

    abbrev second : ℕ → List ℕ → State At
    second = gate_after door highest' registers'

    -- a part of arm i
    abbrev of_arm : ℕ → (Arm At → Arm At → Arm At) → State At → State At → State At
    of_arm i part s t = with_arm i (part (arm_at door s i) (arm_at door t i)) t

    abbrev pub same_cases : List (Case At)
    same_cases =
        matches (first 0 no_orders) (second 0 no_orders)
        ∷ matches (first 2 no_orders) (second 2 no_orders)
        ∷ matches (first 2 (both_gone kind)) (second 2 (both_gone kind))
        ∷ matches (first 3 (two_again kind)) (second 3 (two_again kind))
        ∷ differ_in number (first 2 (both_gone kind)) (numbered_after door highest' registers' 1 2 (both_gone kind))
        ++ differ_in arm_count (first 2 no_orders) (second 3 no_orders)
        ++ differ_in turns (first 2 four_turns) (second 2 two_turns)
        ++ differ_in (of_arm 1 position) (first 2 one_comes) (second 2 next_place)
        ++ differ_in (of_arm 1 position) (first 2 one_comes) (second 2 next_index)
        ++ differ_in (of_arm 1 side) (first 2 reads_before) (second 2 reads_after)
        ++ differ_in (of_arm 2 visits) (first 2 one_visits) (second 2 both_visit)
        ++ differ_in (of_arm 1 mark) (first 2 (both_inside kind)) (after door (second 2 (both_inside kind)) (admit 1))
        ++ differ_in (of_arm 2 (count 1)) (first 2 inside_meanwhile) (second 2 inside_before)
        ++ differ_in (of_arm 1 (note 2)) (first 2 begins_after) (second 2 begins_before)

    -- only the three-bit door has a register that can differ alone: mygroup of an idle arm keeps the side of its last visit.
    -- At the four-valued door the state of an arm is told by its position and side, and the group by the turns
    abbrev pub register_cases : List (Case At)
    register_cases = differ_in (register 5) (first 2 one_then_two) (second 2 two_then_one)
