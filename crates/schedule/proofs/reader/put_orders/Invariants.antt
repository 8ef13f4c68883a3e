use Rattle.std.proofs.Common.{◌≡◌, ◌+◌, ◌≤◌, length}
use Rattle.std.proofs.Math.Seq.{sets}
use Rattle.schedule.proofs.reader.put_orders.Given as goal

-- there is room for the orders that are left, and writing them makes of the memory what writing all makes of it
abbrev pub invariant-loop-i : goal.invariant-loop-i
invariant-loop-i l =
    (l.i-iterator.count + length l.i-iterator.iter ≤ length l.memory)
    × (sets l.memory l.i-iterator.count l.i-iterator.iter ≡ sets l.initial.memory 0 l.schedule.orders)
