use Rattle.std.proofs.Common.{◌≡◌, ◌++◌}
use Rattle.play.specs.Reports.{arm_line, first_line}
use Rattle.play.specs.Text.{lines}
use Rattle.play.proofs.page.put_report.Given as goal

abbrev pub invariant-loop-k : goal.invariant-loop-k
invariant-loop-k g l = l.page.bytes ≡ first_line l.gate l.orders l.refused ++ lines (arm_line g.D.Door.table l.gate) l.k
