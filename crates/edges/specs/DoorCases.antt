-- What happens at a gate of two arms, and at one of three, as schedule files; and what comes of it, at both doors.
use Rattle.std.specs.Prelude.{ℕ, ◌+◌, true, false, List, [], ◌∷◌, ◌++◌, replicate}
use Prim.Native.String.{String, ◌++◌ as ◌then◌}
use Rattle.machine.specs.Kinds.{Kind, three_bits, four_valued}
use Rattle.gate_model.specs.Table.{Table}
use Rattle.gate_model.specs.States.{State}
use Rattle.gate_model.specs.declared.call.Call.TheVariants.{Begin as begin, Way as way}
use Rattle.edges.specs.Cases as C
use Rattle.edges.specs.Cases.{Case, plays, accepts, refuses, frees, counts, notes, turned}

-- the first of two at the three-bit door, the second at the four-valued one
abbrev by_kind : {X : Type 0} → Kind → X → X → X
by_kind three_bits x y = x
by_kind four_valued x y = y

-- of a door of some kind
module _ (kind : Kind) where
  -- how many steps a doorway takes
  abbrev pub doorway : ℕ
  doorway = by_kind kind 5 3

  -- how many steps arm 2 of three makes in W, in its second visit, until it is inside
  abbrev waiting : ℕ
  waiting = by_kind kind 10 9

  -- two arms wait on side 0; 1 goes inside and leaves, so that the bit is 1; a step of it is then refused
  abbrev two_arms : List ℕ
  two_arms =
      0x02 ∷ 0x04 ∷ replicate doorway 0x05 ++ 0x08 ∷ replicate doorway 0x09 ++ replicate 6 0x05 ++ 0x06 ∷ replicate 3 0x05

  -- two arms wait on side 0
  abbrev both_wait : List ℕ
  both_wait = 0x02 ∷ 0x04 ∷ replicate doorway 0x05 ++ 0x08 ∷ replicate doorway 0x09

  -- then 1 goes inside, and then 2
  abbrev pub both_inside : List ℕ
  both_inside = both_wait ++ replicate 6 0x05 ++ replicate 6 0x09

  -- or 1 goes inside and is let go, and then 2 goes inside
  abbrev past_leaving : List ℕ
  past_leaving = both_wait ++ replicate 6 0x05 ++ 0x06 ∷ replicate 6 0x09

  -- after both went inside, both leave
  abbrev pub both_gone : List ℕ
  both_gone = both_inside ++ 0x06 ∷ 0x05 ∷ 0x05 ∷ 0x0A ∷ 0x09 ∷ 0x09 ∷ []

  -- then 2 begins its next visit
  abbrev begun_again : List ℕ
  begun_again = both_gone ++ 0x08 ∷ []

  -- of three arms, 3 goes inside while 2 waits
  abbrev three_inside : List ℕ
  three_inside = 0x03 ∷ 0x08 ∷ replicate doorway 0x09 ++ 0x0C ∷ replicate (doorway + 9) 0x0D

  -- then 3 leaves
  abbrev three_gone : List ℕ
  three_gone = three_inside ++ 0x0E ∷ 0x0D ∷ 0x0D ∷ []

  -- then 1 ends its doorway
  abbrev one_waits : List ℕ
  one_waits = three_gone ++ 0x04 ∷ replicate doorway 0x05

  -- then 2 goes inside
  abbrev two_inside : List ℕ
  two_inside = one_waits ++ 0x09 ∷ []

  -- then 2 leaves
  abbrev two_gone : List ℕ
  two_gone = two_inside ++ 0x0A ∷ 0x09 ∷ 0x09 ∷ []

  -- then 2 begins and goes inside again
  abbrev pub two_again : List ℕ
  two_again = two_gone ++ 0x08 ∷ replicate (doorway + waiting) 0x09

  -- then 2, with side 1, makes its first exit step: the bit is 0 again
  abbrev turned_back : List ℕ
  turned_back = two_again ++ 0x0A ∷ 0x09 ∷ []

  -- a report: its text before the count of orders, that count at the three-bit door and at the four-valued one, and its text after it
  abbrev report : String → String → String → String → String
  report head at_three at_four rest = head then (by_kind kind at_three at_four then rest)

  -- of the door itself and a bank
  module _ {At : Type 0} (door : Table At) (highest : ℕ) (registers : List ℕ) where
    abbrev gate_after : ℕ → List ℕ → State At
    gate_after = C.gate_after door highest registers

    abbrev gate_visited : ℕ → State At
    gate_visited = C.gate_visited door highest registers

    abbrev pub cases : List (Case At)
    cases =
        plays (0x02 ∷ 0x0C ∷ []) "arms 2 orders 1 refused 1 bit 0\n1 I - 0 0\n2 I - 0 0\n"
        ∷ plays two_arms (report "arms 2 orders " "22" "18" " refused 1 bit 1\n1 I - 1 0\n2 W 0 1 1\n")
        ∷ frees (gate_after 2 two_arms) 2 true
        ∷ refuses (gate_after 2 two_arms) (way 1) 6
        ∷ plays both_inside (report "arms 2 orders " "24" "20" " refused 0 bit 0\n1 F 0 1 0\n2 F 0 1 1\n")
        ∷ plays past_leaving (report "arms 2 orders " "25" "21" " refused 0 bit 0\n1 X 0 1 0\n2 F 0 1 1\n")
        ∷ plays both_gone (report "arms 2 orders " "30" "26" " refused 0 bit 1\n1 I - 1 0\n2 I - 1 1\n")
        ∷ plays begun_again (report "arms 2 orders " "31" "27" " refused 0 bit 1\n1 I - 1 0\n2 D - 2 1\n")
        ∷ counts (gate_after 2 both_gone) 2 1 1
        ∷ notes (gate_after 2 both_gone) 1 2 true
        ∷ notes (gate_after 2 both_gone) 2 1 false
        ∷ plays three_inside (report "arms 3 orders " "21" "17" " refused 0 bit 0\n1 I - 0 0\n2 W 0 1 1\n3 F 0 1 0\n")
        ∷ plays three_gone (report "arms 3 orders " "24" "20" " refused 0 bit 1\n1 I - 0 0\n2 W 0 1 1\n3 I - 1 0\n")
        ∷ plays one_waits (report "arms 3 orders " "30" "24" " refused 0 bit 1\n1 W 1 1 0\n2 W 0 1 1\n3 I - 1 0\n")
        ∷ plays two_inside (report "arms 3 orders " "31" "25" " refused 0 bit 1\n1 W 1 1 1\n2 F 0 1 1\n3 I - 1 0\n")
        ∷ plays two_gone (report "arms 3 orders " "34" "28" " refused 0 bit 1\n1 W 1 1 1\n2 I - 1 1\n3 I - 1 0\n")
        ∷ plays two_again (report "arms 3 orders " "50" "41" " refused 0 bit 1\n1 W 1 1 2\n2 F 1 2 0\n3 I - 1 0\n")
        ∷ counts (gate_after 3 two_again) 1 2 2
        ∷ turned (gate_after 2 two_arms) 1
        ∷ turned (gate_after 3 two_gone) 1
        ∷ turned (gate_after 3 turned_back) 2
        ∷ accepts (gate_visited 999999999) (begin 1)
        ∷ refuses (gate_visited 1000000000) (begin 1) 5
        ∷ []
