use Rattle.std.proofs.Common.{◌<◌, ◌≤◌, length, arith}
use Rattle.gate_model.proofs.Rooms.{cleared_more, cleared_memory_more}
use Rattle.gate.proofs.making.clear.Goals as goal

pub loop-i-preserved : goal.loop-i-preserved
loop-i-preserved g c =
    let door = g.D.Door.table in
    let high = g.B.Bank.HIGHEST in
    let regs = g.B.Bank.values c.args.bank.now in
    let h : c.loop-i.i < length (g.B.Bank.values c.args.bank.now) = omega arith in
    let fits : door.first c.loop-i.i ≤ high = omega (arith, c.first.ensures.fits) in (
      rw (c.write.ensures.after, c.first.ensures.is, c.loop-i.invariant.0) (cleared_more door high c.loop-i.i regs h fits),
      rw (c.write.ensures.lent, c.first.ensures.is, c.loop-i.invariant.1) (cleared_memory_more door c.loop-i.i (g.B.Bank.memory c.args.bank.now)),
    )
