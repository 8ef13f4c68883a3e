-- What a file says is lawful, and has that file.
use Rattle.std.proofs.Common.{◌≡◌, ℕ, true, ◌+◌, ◌<◌, ◌≤◌, List, [], ◌∷◌, length, drop, Ok, Err, Result, refl, arith}
use Rattle.std.proofs.lemmas.List.Elements.{All-nil, All-cons, All-drop}
use Rattle.std.proofs.lemmas.Bool.Decides.{nat_tests}
use Rattle.schedule.specs.declared.order_number.Order.{Order}
use Rattle.schedule.specs.declared.parts.Placed.{Placed}
use Rattle.schedule.specs.declared.fault.ScheduleFault.{ScheduleFault}
use Rattle.schedule.specs.Laws.{bytes_of, IsBytes, ReadsLawful}
use Rattle.schedule.specs.FileLimits.{file_limit, is_arm_count, largest_arm}
use Rattle.schedule.specs.Numbers.{number_from}
use Rattle.schedule.specs.Orders.{order_number, arm_of_order}
use Rattle.schedule.specs.Reading.{order_from, orders_from}
use Rattle.schedule.specs.Writing.{order_bytes}
use Rattle.schedule.proofs.Groups.{span, ends, Near, near_number, groups_of_number}
use Rattle.schedule.proofs.OneMoreOrder.{order_is, order_ends, orders_step, orders_fault, orders_end}

record Listed (bytes : List ℕ) (os : List Order) : Type 0 where
  near : Near os
  are : bytes ≡ order_bytes os

-- bytes that read as a list begin with its first order, and the rest of them reads as the rest; bytes that read as no orders are none
first_back : (place count : ℕ) (bytes : List ℕ) (o : Order) (os : List Order) → orders_from place count bytes ≡ Ok (o ∷ os)
    → (order_from place count bytes ≡ Ok (record { order = o; next = place + span bytes }))
    × (orders_from (place + span bytes) (count + 1) (drop (span bytes) bytes) ≡ Ok os)
first_back place count bytes o os e = by (order_from place count bytes) refl
  where
    by : (r : Result Placed ScheduleFault) → order_from place count bytes ≡ r
        → (r ≡ Ok (record { order = o; next = place + span bytes })) × (orders_from (place + span bytes) (count + 1) (drop (span bytes) bytes) ≡ Ok os)
    by (Ok p) r =
        let s = orders_step place count bytes p r in
        let n = order_ends place count bytes p r in
        (grind arith, grind arith)
    by (Err f) r =
        let k = orders_fault place count bytes f in
        let l = orders_end place count in
        absurd (grind arith)

none_back : (place count : ℕ) (bytes : List ℕ) → orders_from place count bytes ≡ Ok [] → bytes ≡ []
unfolding orders_from
none_back place count bytes e = grind arith

orders_back : (place count : ℕ) (bytes : List ℕ) (os : List Order) → IsBytes bytes → orders_from place count bytes ≡ Ok os → Listed bytes os
orders_back place count bytes [] b e =
    record { near = All-nil (λ o. arm_of_order o ≤ largest_arm); are = none_back place count bytes e }
orders_back place count bytes (o ∷ os) b e =
    let f = first_back place count bytes o os e in
    let next = place + span bytes in
    let g = groups_of_number place bytes (ends (order_number o) next) b (order_is place count bytes (record { order = o; next = next }) f.0) in
    let t = orders_back next (count + 1) (drop (span bytes) bytes) os (All-drop (λ y. y < 256) (span bytes) bytes b) f.1 in
    record { near = All-cons (λ o. arm_of_order o ≤ largest_arm) o os (near_number o g.small) t.near; are = grind arith }

pub reads_lawful : ReadsLawful
reads_lawful file b c e =
    let next = span file in
    let rest = drop next file in
    let short : length file ≤ file_limit = grind (arith, nat_tests) in
    let counts : is_arm_count c.arms ≡ true = grind (arith, nat_tests) in
    let first : number_from 0 file ≡ Ok (ends c.arms next) = grind (arith, nat_tests) in
    let others : orders_from next 1 rest ≡ Ok c.orders = grind (arith, nat_tests) in
    let g = groups_of_number 0 file (ends c.arms next) b first in
    let t = orders_back next 1 rest c.orders (All-drop (λ y. y < 256) next file b) others in
    let is : file ≡ bytes_of c = cc in
    (record { some_arms = grind (arith, nat_tests); few_arms = grind (arith, nat_tests); near_arms = t.near; short = grind arith }, is)
