-- What a file says: its arm count and its orders, or its first fault.
use Rattle.std.specs.Prelude.{ℕ, ◌+◌, if◌then◌else◌, List, [], ◌∷◌, length, drop, Some, None, Ok, Err, Option, Result, nat_le, nat_lt}
use Rattle.std.specs.Result.{result_unwrap_or}
use Rattle.schedule.specs.declared.order_number.Order.{Order}
use Rattle.schedule.specs.declared.number.Number.{Number}
use Rattle.schedule.specs.declared.schedule_file.Heading.{Heading}
use Rattle.schedule.specs.declared.parts.Placed.{Placed}
use Rattle.schedule.specs.declared.fault.NumberFault.{NumberFault}
use Rattle.schedule.specs.declared.fault.Counted.{Counted}
use Rattle.schedule.specs.declared.fault.ScheduleFault.{ScheduleFault}
use Rattle.schedule.specs.declared.fault.ScheduleFault.TheVariants as S
use Rattle.schedule.specs.declared.fault.PlayFault.{PlayFault}
use Rattle.schedule.specs.declared.fault.PlayFault.TheVariants.{LongFile, Schedule, Full}
use Rattle.schedule.specs.FileLimits.{is_arm_count, file_limit}
use Rattle.schedule.specs.Memory.{put_into}
use Rattle.schedule.specs.Numbers.{number_from}
use Rattle.schedule.specs.Orders.{order_of}

-- an arm count and the orders after it
pub record Contents : Type 0 where
  pub arms : ℕ
  pub orders : List Order

abbrev pub contents : ℕ → List Order → Contents
contents arms orders = record { arms = arms; orders = orders }

-- f of what was found, or the fault
abbrev pub and_then : {X Y E : Type 0} → Result X E → (X → Result Y E) → Result Y E
and_then (Ok x) f = f x
and_then (Err e) f = Err e

-- a number fault gets the count of its number; each layer above carries the fault of the one below whole
abbrev pub with_count : {X : Type 0} → ℕ → Result X NumberFault → Result X Counted
with_count count (Ok x) = Ok x
with_count count (Err fault) = Err (record { fault = fault; order = count })

abbrev pub in_schedule : {X : Type 0} → Result X Counted → Result X ScheduleFault
in_schedule (Ok x) = Ok x
in_schedule (Err c) = Err (S.Number c.fault c.order)

abbrev pub in_play : {X : Type 0} → Result X ScheduleFault → Result X PlayFault
in_play (Ok x) = Ok x
in_play (Err fault) = Err (Schedule fault)

-- f of the number that begins at a place, the count-th of its file; or its fault
abbrev pub numbered : {X : Type 0} → ℕ → ℕ → List ℕ → (Number → Result X ScheduleFault) → Result X ScheduleFault
numbered place count bytes f = and_then (in_schedule (with_count count (number_from place bytes))) f

-- the arm count, which is the first number of a file
abbrev pub arms_from : List ℕ → Result Number ScheduleFault
arms_from bytes = numbered 0 0 bytes (λ n. if is_arm_count n.value then Ok n else Err S.ArmCount)

-- each further number is an order, or has the unknown kind 3
abbrev pub known : ℕ → ℕ → ℕ → Option Order → Result Placed ScheduleFault
known place count after (Some o) = Ok (record { order = o; next = after })
known place count after None = Err (S.UnknownOrder place count)

-- the order that begins at a place, the count-th of its file
abbrev pub order_from : ℕ → ℕ → List ℕ → Result Placed ScheduleFault
order_from place count bytes = numbered place count bytes (λ n. known place count n.next (order_of n.value))

-- an order and those after it, or the fault of these
abbrev pub preceded : Order → Result (List Order) ScheduleFault → Result (List Order) ScheduleFault
preceded o (Ok os) = Ok (o ∷ os)
preceded o (Err fault) = Err fault

-- the orders from a place to the end, the first of them the count-th: a number has one byte, or two if its first says so
unfoldable pub orders_from : ℕ → ℕ → List ℕ → Result (List Order) ScheduleFault
orders_from place count [] = Ok []
orders_from place count (low ∷ []) = and_then (order_from place count (low ∷ [])) (λ p. Ok (p.order ∷ []))
orders_from place count (low ∷ high ∷ rest) =
    let one = orders_from (place + 1) (count + 1) (high ∷ rest) in
    let two = orders_from (place + 2) (count + 1) rest in
    and_then (order_from place count (low ∷ high ∷ rest)) (λ p. preceded p.order (if nat_lt low 128 then one else two))

-- the orders from a place to the end of a file, where these have no fault
abbrev pub orders_at : List ℕ → ℕ → ℕ → List Order
orders_at file at count = result_unwrap_or (orders_from at count (drop at file)) []

-- how many orders there are
abbrev pub order_count : Result (List Order) ScheduleFault → Result ℕ ScheduleFault
order_count (Ok os) = Ok (length os)
order_count (Err fault) = Err fault

abbrev pub contents_from : Number → List ℕ → Result Contents ScheduleFault
contents_from n bytes =
    and_then (orders_from n.next 1 (drop n.next bytes)) (λ os. Ok (contents n.value os))

-- an arm count and the orders after it, or the first fault among them
abbrev pub schedule_from : List ℕ → Result Contents ScheduleFault
schedule_from bytes = and_then (arms_from bytes) (λ n. contents_from n bytes)

-- the file where it has at most 60,000 bytes
abbrev pub short_file : List ℕ → Result (List ℕ) PlayFault
short_file bytes = if nat_le (length bytes) file_limit then Ok bytes else Err LongFile

-- what a file says: its arm count and orders, or its first fault
abbrev pub says : List ℕ → Result Contents PlayFault
says bytes = and_then (short_file bytes) (λ file. in_play (schedule_from file))

abbrev pub heading : Contents → Heading
heading c = record { arms = c.arms; orders = length c.orders }

abbrev pub heading_of : Result Contents PlayFault → Result Heading PlayFault
heading_of (Ok c) = Ok (heading c)
heading_of (Err fault) = Err fault

-- what the reader answers, with memory that has room for so many orders
abbrev pub read_answer : Result Contents PlayFault → ℕ → Result Heading PlayFault
read_answer (Ok c) room = if nat_le (length c.orders) room then Ok (heading c) else Err Full
read_answer (Err fault) room = Err fault

-- what the memory holds after the reader
abbrev pub read_memory : Result Contents PlayFault → List Order → List Order
read_memory (Ok c) memory = put_into memory c.orders
read_memory (Err fault) memory = memory
