-- What one more number makes of the memory.
use Rattle.std.proofs.Common.{◌≡◌, ℕ, ◌+◌, ◌<◌, ◌≤◌, List, ◌++◌, length, get_or, take, drop, arith, length-append}
use Rattle.std.proofs.lemmas.List.{take_at, drop-drop, drop_at}
use Rattle.std.proofs.lemmas.List.Folds.{length-flat_map-take}
use Rattle.schedule.specs.declared.order_number.Order.{Order}
use Rattle.schedule.specs.declared.order_number.Order.TheVariants.{Begin}
use Rattle.schedule.specs.Numbers.{groups}
use Rattle.schedule.specs.Orders.{order_number}
use Rattle.schedule.specs.Writing.{file_bytes}

-- what a read past the end gives
abbrev pub no_order : Order
no_order = Begin 0

-- the bytes of one more order fit
pub next_within : (arms i : ℕ) (os : List Order) → i < length os
    → length (file_bytes arms (take i os)) + length (groups (order_number (get_or os i no_order))) ≤ length (file_bytes arms os)
next_within arms i os h = omega (arith, length-flat_map-take (λ o. groups (order_number o)) os i no_order h, length-append {A = ℕ})

-- one more list of bytes after those before it
pub one_more_number : (before bytes memory out : List ℕ) (at : ℕ) → at ≡ length before → out ≡ before ++ drop at memory
    → take at out ++ bytes ++ drop (at + length bytes) out ≡ before ++ bytes ++ drop (at + length bytes) memory
one_more_number before bytes memory out at l e = grind (arith, take_at {A = ℕ}, drop_at {A = ℕ}, drop-drop {A = ℕ})
