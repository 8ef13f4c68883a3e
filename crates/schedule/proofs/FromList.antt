-- The file of a list reads back as the list.
use Rattle.std.proofs.Common.{◌≡◌, ℕ, ◌+◌, ◌<◌, ◌≤◌, List, [], ◌∷◌, ◌++◌, length, Ok, refl, arith}
use Rattle.std.proofs.lemmas.List.Elements.{All-nil, All-tail, All-append}
use Rattle.std.proofs.lemmas.List.{drop_at}
use Rattle.std.proofs.lemmas.Bool.Decides.{nat_tests}
use Rattle.schedule.specs.declared.order_number.Order.{Order}
use Rattle.schedule.specs.declared.parts.Placed.{Placed}
use Rattle.schedule.specs.Laws.{IsBytes, ReadsBack}
use Rattle.schedule.specs.FileLimits.{largest_arm}
use Rattle.schedule.specs.Numbers.{groups}
use Rattle.schedule.specs.Orders.{order_number, arm_of_order}
use Rattle.schedule.specs.Reading.{order_from, orders_from}
use Rattle.schedule.specs.Writing.{order_bytes}
use Rattle.schedule.proofs.Groups.{span, Near, number_of_groups, groups_bytes, order_of_number, number_near}
use Rattle.schedule.proofs.OneMoreOrder.{orders_step, orders_end}

orders_read : (place count : ℕ) (os : List Order) → Near os → orders_from place count (order_bytes os) ≡ Ok os
orders_read place count [] h = orders_end place count
orders_read place count (o ∷ os) h =
    let first = groups (order_number o) in
    let bytes = first ++ order_bytes os in
    let p : Placed = record { order = o; next = place + length first } in
    let number = number_of_groups place (order_number o) (order_bytes os) (number_near o (h 0 o (omega arith))) in
    let read : order_from place count bytes ≡ Ok p = grind (arith, order_of_number o) in
    let step = orders_step place count bytes p read in
    let left = drop_at first (order_bytes os) (span bytes) (grind (arith, nat_tests)) in
    let others = orders_read (place + length first) (count + 1) os (All-tail (λ x. arm_of_order x ≤ largest_arm) o os h) in
    grind arith

orders_bytes : (os : List Order) → Near os → IsBytes (order_bytes os)
orders_bytes [] h = All-nil (λ b. b < 256)
orders_bytes (o ∷ os) h =
    let first = groups_bytes (order_number o) (number_near o (h 0 o (omega arith))) in
    let others = orders_bytes os (All-tail (λ x. arm_of_order x ≤ largest_arm) o os h) in
    All-append (λ b. b < 256) (groups (order_number o)) (order_bytes os) first others

pub reads_back : ReadsBack
reads_back c l =
    let g = groups c.arms in
    let first = number_of_groups 0 c.arms (order_bytes c.orders) (omega (arith, l.few_arms)) in
    let some = l.some_arms in
    let few = l.few_arms in
    let left = drop_at g (order_bytes c.orders) (length g) refl in
    let others = orders_read (length g) 1 c.orders l.near_arms in
    let short = l.short in (
      All-append (λ b. b < 256) g (order_bytes c.orders) (groups_bytes c.arms (omega (arith, l.few_arms))) (orders_bytes c.orders l.near_arms),
      grind (arith, nat_tests),
    )
