use Rattle.std.proofs.Common.{sym, ◌∙◌, rules}
use Rattle.gate_model.specs.declared.phase.Phase.TheVariants as P
use Rattle.gate.proofs.RecordsRead.{may_move}
use Rattle.gate.proofs.gate.Gate.step_by_phase.Goals as goal

pub move_on-requires : goal.move_on-requires
move_on-requires g c = (search rules, may_move g.D.Door.table c.args.self.now c.args.arm P.D c.record.result c.in_ok-from.field-0 c.record.ensures.record c.in_ok-from.was (sym c.in-D.is ∙ c.phase.ensures) tt)

pub move_on-requires-in-W : goal.move_on-requires-in-W
move_on-requires-in-W g c = (search rules, may_move g.D.Door.table c.args.self.now c.args.arm P.W c.record.result c.in_ok-from.field-0 c.record.ensures.record c.in_ok-from.was (sym c.in-W.is ∙ c.phase.ensures) tt)

pub move_on-requires-in-X : goal.move_on-requires-in-X
move_on-requires-in-X g c = (search rules, may_move g.D.Door.table c.args.self.now c.args.arm P.X c.record.result c.in_ok-from.field-0 c.record.ensures.record c.in_ok-from.was (sym c.in-X.is ∙ c.phase.ensures) tt)
