use Rattle.gate.proofs.Noting.{Noting}
use Rattle.gate.proofs.rows.start_row.Given as goal

abbrev pub invariant-loop-j : goal.invariant-loop-j
invariant-loop-j g l = Noting g.D.Door.table l.fn.arms l.k l.j l.arms
