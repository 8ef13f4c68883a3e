use Rattle.std.proofs.Common.{◌≡◌, ◌+◌, ◌≤◌, length}
use Rattle.schedule.specs.FileLimits.{file_limit}
use Rattle.obeying.specs.Obeying.{obeyed_all, refusals}
use Rattle.play.proofs.player.obey_all.Given as goal

-- what the gate makes of the orders that are left is what it makes of all from the start
abbrev pub invariant-loop-order : goal.invariant-loop-order
invariant-loop-order g l =
    (l.refused + length l.order-iterator ≤ file_limit)
    × (l.refused + refusals g.D.Door.table l.gate l.order-iterator ≡ refusals g.D.Door.table l.initial.gate l.schedule.orders)
    × (obeyed_all g.D.Door.table l.gate l.order-iterator ≡ obeyed_all g.D.Door.table l.initial.gate l.schedule.orders)
