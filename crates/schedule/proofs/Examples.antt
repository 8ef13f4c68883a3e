-- The definitions at small files.
use Rattle.std.proofs.Common.{◌≡◌, suc, List, [], ◌∷◌, Ok, Err, Result, refl}
use Rattle.schedule.specs.declared.order_number.Order.{Order}
use Rattle.schedule.specs.declared.order_number.Order.TheVariants.{Begin, Step, Leave}
use Rattle.schedule.specs.declared.fault.NumberFault.TheVariants.{Cut, Padded, Large}
use Rattle.schedule.specs.declared.fault.ScheduleFault.TheVariants.{Number, ArmCount, UnknownOrder}
use Rattle.schedule.specs.declared.fault.PlayFault.{PlayFault}
use Rattle.schedule.specs.declared.fault.PlayFault.TheVariants.{Schedule, Full}
use Rattle.schedule.specs.declared.writer.WriteRefusal.TheVariants as W
use Rattle.schedule.specs.declared.fault.Layer.TheVariants as L
use Rattle.schedule.specs.FileLimits.{arm_limit, largest_arm}
use Rattle.schedule.specs.Faults.{fault_number, fault_place, fault_order, fault_layer}
use Rattle.schedule.specs.Numbers.{groups}
use Rattle.schedule.specs.Reading.{Contents, says, orders_from, read_answer, read_memory}
use Rattle.schedule.specs.Writing.{file_bytes, write_answer, write_memory}

-- 7F, 80 01 and FF 7F
one_group : groups 127 ≡ 127 ∷ []
one_group = refl

two_groups : groups 128 ≡ 128 ∷ 1 ∷ []
two_groups = refl

largest : groups 16383 ≡ 255 ∷ 127 ∷ []
largest = refl

-- what is wrong with a file
abbrev fault : PlayFault → Result Contents PlayFault
fault f = Err f

-- 80 00, 80, FF FF and the empty file as first number
padded : says (128 ∷ 0 ∷ []) ≡ fault (Schedule (Number (Padded 0) 0))
unfolding orders_from
padded = refl

cut : says (128 ∷ []) ≡ fault (Schedule (Number (Cut 0) 0))
unfolding orders_from
cut = refl

large : says (255 ∷ 255 ∷ []) ≡ fault (Schedule (Number (Large 0) 0))
unfolding orders_from
large = refl

empty : says [] ≡ fault (Schedule (Number (Cut 0) 0))
unfolding orders_from
empty = refl

-- a file of the most arms and no orders; of one arm more; and 00, which has no arms
no_orders : says (groups arm_limit) ≡ Ok (record { arms = arm_limit; orders = [] })
unfolding orders_from
no_orders = refl

many_arms : says (groups (suc arm_limit)) ≡ fault (Schedule ArmCount)
unfolding orders_from
many_arms = refl

no_arms : says (0 ∷ []) ≡ fault (Schedule ArmCount)
unfolding orders_from
no_arms = refl

-- 02 07 has an order of kind 3
unknown : says (2 ∷ 7 ∷ []) ≡ fault (Schedule (UnknownOrder 1 1))
unfolding orders_from
unknown = refl

-- 02 04 80 00 has a padded number after an order
abbrev later : PlayFault
later = Schedule (Number (Padded 2) 2)

padded_later : says (2 ∷ 4 ∷ 128 ∷ 0 ∷ []) ≡ fault later
unfolding orders_from
padded_later = refl

later_number : fault_number later ≡ 12
later_number = refl

later_place : fault_place later ≡ 2
later_place = refl

later_order : fault_order later ≡ 2
later_order = refl

later_layer : fault_layer later ≡ L.Number
later_layer = refl

-- 02 04 85 01 06: two arms; arm 1 begins, arm 33 steps, arm 1 leaves
abbrev three : List Order
three = Begin 1 ∷ Step 33 ∷ Leave 1 ∷ []

three_read : says (2 ∷ 4 ∷ 133 ∷ 1 ∷ 6 ∷ []) ≡ Ok (record { arms = 2; orders = three })
unfolding orders_from
three_read = refl

three_written : file_bytes 2 three ≡ 2 ∷ 4 ∷ 133 ∷ 1 ∷ 6 ∷ []
three_written = refl

-- memory for fewer orders than the file has is full, and stays as it was
abbrev mine : List Order
mine = Leave 7 ∷ []

full_answer : read_answer (says (2 ∷ 4 ∷ 5 ∷ [])) 1 ≡ Err Full
unfolding orders_from
full_answer = refl

full_memory : read_memory (says (2 ∷ 4 ∷ 5 ∷ [])) mine ≡ mine
unfolding orders_from
full_memory = refl

part_memory : read_memory (says (2 ∷ 4 ∷ [])) (Leave 7 ∷ Leave 8 ∷ []) ≡ Begin 1 ∷ Leave 8 ∷ []
unfolding orders_from
part_memory = refl

-- the writer refuses an arm count first, then a large number, then for want of memory
far_first : write_answer 0 (Begin (suc largest_arm) ∷ []) 0 ≡ Err W.ArmCount
far_first = refl

far : write_answer 1 (Begin (suc largest_arm) ∷ []) 0 ≡ Err W.Large
far = refl

near : write_answer 1 (Leave largest_arm ∷ []) 3 ≡ Ok 3
near = refl

no_room : write_answer 1 (Leave largest_arm ∷ []) 2 ≡ Err W.Full
no_room = refl

written : write_memory 1 (Step 1 ∷ []) (9 ∷ 9 ∷ 9 ∷ []) ≡ 1 ∷ 5 ∷ 9 ∷ []
written = refl
