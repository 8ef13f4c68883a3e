use Rattle.std.proofs.Common.{sym, ◌∙◌}
use Rattle.recorder.proofs.KeptBegun.{kept_begun}
use Rattle.recordday.proofs.day.begin_day.Goals as goal

pub returns : goal.returns
returns g c = kept_begun g.D.Door.table c.args.gate c.in_ok-start.field-0 c.over.result c.args.file.now c.start.new.file (rw (← c.gate.view_is) c.gate.invariant.reached) (sym c.start.ensures.answer ∙ c.in_ok-start.was) c.start.ensures.memory c.over.ensures
