use Rattle.std.proofs.Common.{◌≡◌, ◌≤◌, min, length}
use Rattle.gate_model.specs.Limits.{arm_limit}
use Rattle.gate_model.specs.Making.{largest}
use Rattle.gate.proofs.making.arm_count.Given as goal

-- no arm count above n has room
abbrev pub invariant-loop-n : goal.invariant-loop-n
invariant-loop-n g l =
    let len = length (g.B.Bank.values l.bank) in
    (l.n ≤ arm_limit) × (largest g.D.Door.table len l.n ≡ largest g.D.Door.table len (min l.wanted arm_limit))

abbrev pub decreases-loop-n : goal.decreases-loop-n
decreases-loop-n g l = l.n
