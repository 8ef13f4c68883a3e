-- The file of an arm count and a list of orders, or why it is refused; and a file that grows by one order.
use Rattle.std.specs.Prelude.{ℕ, ◌+◌, codes, Bool, if◌then◌else◌, List, ◌++◌, length, take, drop, Ok, Err, is_ok, Result, nat_le}
use Rattle.std.specs.List.{flat_map, list_all}
use Rattle.schedule.specs.declared.order_number.Order.{Order}
use Rattle.schedule.specs.declared.writer.WriteRefusal.{WriteRefusal}
use Rattle.schedule.specs.declared.writer.WriteRefusal.TheVariants.{ArmCount, Large, LongFile, Full}
use Rattle.schedule.specs.FileLimits.{is_arm_count, file_limit, largest_number}
use Rattle.schedule.specs.Memory.{put_into}
use Rattle.schedule.specs.Numbers.{groups}
use Rattle.schedule.specs.Orders.{order_number}

abbrev pub write_refusal_number : WriteRefusal → ℕ
write_refusal_number ArmCount = 14
write_refusal_number Large = 13
write_refusal_number LongFile = 9
write_refusal_number Full = 16

abbrev pub write_refusal_word : WriteRefusal → List ℕ
write_refusal_word ArmCount = codes "arm count"
write_refusal_word Large = codes "large"
write_refusal_word LongFile = codes "long file"
write_refusal_word Full = codes "full"

abbrev pub order_bytes : List Order → List ℕ
order_bytes orders = flat_map (λ o. groups (order_number o)) orders

-- the bytes of a file: the arm count, then the orders
abbrev pub file_bytes : ℕ → List Order → List ℕ
file_bytes arms orders = groups arms ++ order_bytes orders

-- whether no order's number is above 16,383
abbrev pub are_small : List Order → Bool
are_small orders = list_all (λ o. nat_le (order_number o) largest_number) orders

abbrev pub if_short : List ℕ → Result (List ℕ) WriteRefusal
if_short file = if nat_le (length file) file_limit then Ok file else Err LongFile

-- the file, or the refusal that comes first
abbrev pub file_of : ℕ → List Order → Result (List ℕ) WriteRefusal
file_of arms orders =
    if is_arm_count arms
    then (if are_small orders then if_short (file_bytes arms orders) else Err Large)
    else Err ArmCount

abbrev pub length_of : Result (List ℕ) WriteRefusal → Result ℕ WriteRefusal
length_of (Ok file) = Ok (length file)
length_of (Err refusal) = Err refusal

abbrev pub length_or_full : Result (List ℕ) WriteRefusal → ℕ → Result ℕ WriteRefusal
length_or_full (Ok file) room = if nat_le (length file) room then Ok (length file) else Err Full
length_or_full (Err refusal) room = Err refusal

-- what the writer answers, with memory of room bytes
abbrev pub write_answer : ℕ → List Order → ℕ → Result ℕ WriteRefusal
write_answer arms orders room = length_or_full (file_of arms orders) room

abbrev pub file_or_nothing : Result (List ℕ) WriteRefusal → List ℕ → List ℕ
file_or_nothing (Ok file) memory = put_into memory file
file_or_nothing (Err refusal) memory = memory

-- what the memory holds after the writer
abbrev pub write_memory : ℕ → List Order → List ℕ → List ℕ
write_memory arms orders memory = file_or_nothing (file_of arms orders) memory

-- the memory after bytes were written at a place; no others change
abbrev pub written_at : ℕ → List ℕ → List ℕ → List ℕ
written_at at bytes memory = take at memory ++ bytes ++ drop (at + length bytes) memory

-- what start answers, with memory of room bytes, and what the memory then holds
abbrev pub start_answer : ℕ → ℕ → Result ℕ WriteRefusal
start_answer arms room =
    if is_arm_count arms
    then (if nat_le (length (groups arms)) room then Ok (length (groups arms)) else Err Full)
    else Err ArmCount

abbrev pub start_memory : ℕ → List ℕ → List ℕ
start_memory arms memory = if is_ok (start_answer arms (length memory)) then written_at 0 (groups arms) memory else memory

-- where the file would end with this order more, or the refusal that comes first
abbrev pub end_or_refusal : Order → ℕ → ℕ → Result ℕ WriteRefusal
end_or_refusal order end room =
    if nat_le (order_number order) largest_number
    then (if nat_le end file_limit then (if nat_le end room then Ok end else Err Full) else Err LongFile)
    else Err Large

-- what append answers, of a file that ends at a place, and what the memory then holds
abbrev pub append_answer : Order → ℕ → ℕ → Result ℕ WriteRefusal
append_answer order at room = end_or_refusal order (at + length (groups (order_number order))) room

abbrev pub append_memory : Order → ℕ → List ℕ → List ℕ
append_memory order at memory =
    if is_ok (append_answer order at (length memory)) then written_at at (groups (order_number order)) memory else memory
