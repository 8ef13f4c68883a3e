use Rattle.recorder.specs.Kept.{HoldsRecord}
use Rattle.recordday.proofs.day.record_day.Given as goal

abbrev pub invariant-loop-turn : goal.invariant-loop-turn
invariant-loop-turn g l = HoldsRecord g.D.Door.table l.recorder l.file
