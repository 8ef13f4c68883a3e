use Rattle.std.proofs.Common.{◌≡◌, ◌+◌, ◌-◌, ◌≤◌, length, drop}
use Rattle.schedule.specs.Reading.{orders_from}
use Rattle.schedule.proofs.ReadSoFar.{count_after}
use Rattle.schedule.proofs.schedule_file.count_orders.Given as goal

-- the orders so far and those that are left make up the file's
abbrev pub invariant-loop-at : goal.invariant-loop-at
invariant-loop-at l =
    (l.from + l.count ≤ l.at)
    × (l.count ≤ length l.file)
    × (count_after l.count (orders_from l.at (l.count + 1) (drop l.at l.file))
    ≡ count_after 0 (orders_from l.from 1 (drop l.from l.file)))

abbrev pub decreases-loop-at : goal.decreases-loop-at
decreases-loop-at l = length l.file - l.at
