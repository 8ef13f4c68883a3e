use Rattle.std.proofs.Common.{Some, arith, rules}
use Rattle.std.proofs.lemmas.Grind.{common_steps}
use Rattle.gate_model.specs.Calls.{arm_after}
use Rattle.gate_model.specs.declared.call.Call.TheVariants.{Step}
use Rattle.recorder.specs.Recorders.{handed}
use Rattle.recorder.proofs.InHand.{one_call_more}
use Rattle.recorder.proofs.Written.{not_down, after_went, memory_went, added_order, none_of}
use Rattle.schedule.specs.declared.order_number.Order.TheVariants as O
use Rattle.recorder.proofs.recorder.Recorder.step.Goals as goal

pub returns-clause-answer : goal.returns-clause-answer
returns-clause-answer g c =
    let down = not_down c.args.self.now (Step c.args.arm) c.args.file.now c.may_write.result (grind (arith, common_steps)) (search rules) in
    grind (arith, common_steps)

pub returns-clause-memory : goal.returns-clause-memory
returns-clause-memory g c =
    let down = not_down c.args.self.now (Step c.args.arm) c.args.file.now c.may_write.result (grind (arith, common_steps)) (search rules) in
    let none = none_of _ c.in_ok-phase.phase (g.D.Door.table.phase (arm_after g.D.Door.table c.args.self.now.gate c.args.arm).position) c.step.result (grind (arith, common_steps)) (search rules) in
    memory_went g.D.Door.table c.args.self.now (handed (Step c.args.arm) c.args.file.now) _ (Some (O.Step c.args.arm)) (added_order g.D.Door.table c.args.self.now (handed (Step c.args.arm) c.args.file.now) down none) (grind (arith, common_steps))

pub returns-clause-after : goal.returns-clause-after
returns-clause-after g c =
    let down = not_down c.args.self.now (Step c.args.arm) c.args.file.now c.may_write.result (grind (arith, common_steps)) (search rules) in
    let none = none_of _ c.in_ok-phase.phase (g.D.Door.table.phase (arm_after g.D.Door.table c.args.self.now.gate c.args.arm).position) c.step.result (grind (arith, common_steps)) (search rules) in
    after_went g.D.Door.table c.args.self.now _ (handed (Step c.args.arm) c.args.file.now) (Some (O.Step c.args.arm)) down (added_order g.D.Door.table c.args.self.now (handed (Step c.args.arm) c.args.file.now) down none) (grind (arith, common_steps))

pub invariant_of-self-2 : goal.invariant_of-self-2
invariant_of-self-2 g c = one_call_more g.D.Door.table c.args.self.now _ (handed (Step c.args.arm) c.args.file.now) (search rules) (returns-clause-after g c)
