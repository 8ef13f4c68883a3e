-- An order and its number: four times the arm, and the kind.
use Rattle.std.specs.Prelude.{ℕ, ◌+◌, ◌*◌, ◌/◌, ◌%◌, if◌then◌else◌, Some, None, Option, ◌==◌}
use Rattle.schedule.specs.declared.order_number.Order.{Order}
use Rattle.schedule.specs.declared.order_number.Order.TheVariants.{Begin, Step, Leave}

abbrev pub order_number : Order → ℕ
order_number (Begin arm) = 4 * arm
order_number (Step arm) = 4 * arm + 1
order_number (Leave arm) = 4 * arm + 2

abbrev pub arm_of_order : Order → ℕ
arm_of_order (Begin arm) = arm
arm_of_order (Step arm) = arm
arm_of_order (Leave arm) = arm

-- the order that has a number; none where its kind is 3
abbrev pub order_of : ℕ → Option Order
order_of k =
    if k % 4 == 0 then Some (Begin (k / 4))
    else if k % 4 == 1 then Some (Step (k / 4))
    else if k % 4 == 2 then Some (Leave (k / 4))
    else None
