use Rattle.std.proofs.Common.{◌≤◌, refl, Some, None, ◌∙◌, arith, rules}
use Rattle.std.proofs.lemmas.Grind.{common_steps}
use Rattle.gate_model.specs.Limits.{arm_limit}
use Rattle.gate_model.specs.declared.call.Call.TheVariants.{Leave}
use Rattle.recorder.specs.Recorders.{handed}
use Rattle.recorder.proofs.InHand.{one_call_more}
use Rattle.recorder.proofs.Written.{not_down, room_for, after_went, memory_went, added_order, none_added, spent_arm, not_spent, none_spent, spent_on, back_on}
use Rattle.schedule.specs.declared.order_number.Order.TheVariants as O
use Rattle.recorder.proofs.recorder.Recorder.leave.Goals as goal

-- the gate refuses
pub returns-in_err-phase-clause-answer : goal.returns-in_err-phase-clause-answer
returns-in_err-phase-clause-answer g c = back_on _ c.args.pass c.in_err-phase.field-0.0 c.leave.result c.from_residual.result (not_down c.args.self.now (Leave c.args.pass.gate c.args.pass.arm) c.args.file.now c.may_write.result (grind (arith, common_steps)) (search rules)) (search rules) c.from_residual.ensures ∙ grind (arith, common_steps)

pub returns-in_err-phase-clause-memory : goal.returns-in_err-phase-clause-memory
returns-in_err-phase-clause-memory g c =
    memory_went g.D.Door.table c.args.self.now (handed (Leave c.args.pass.gate c.args.pass.arm) c.args.file.now) _ None (none_added g.D.Door.table c.args.self.now (handed (Leave c.args.pass.gate c.args.pass.arm) c.args.file.now) _ (not_spent g.D.Door.table c.args.self.now.gate c.args.pass c.in_err-phase.field-0.0 c.leave.result (grind (arith, common_steps)) (search rules))) refl

pub returns-in_err-phase-clause-after : goal.returns-in_err-phase-clause-after
returns-in_err-phase-clause-after g c =
    let strange = not_spent g.D.Door.table c.args.self.now.gate c.args.pass c.in_err-phase.field-0.0 c.leave.result (grind (arith, common_steps)) (search rules) in
    after_went g.D.Door.table c.args.self.now _ (handed (Leave c.args.pass.gate c.args.pass.arm) c.args.file.now) None (not_down c.args.self.now (Leave c.args.pass.gate c.args.pass.arm) c.args.file.now c.may_write.result (grind (arith, common_steps)) (search rules)) (none_added g.D.Door.table c.args.self.now (handed (Leave c.args.pass.gate c.args.pass.arm) c.args.file.now) _ strange) (grind (arith, common_steps))

pub returns-in_err-phase-clause-passes : goal.returns-in_err-phase-clause-passes
returns-in_err-phase-clause-passes g c =
    let strange = not_spent g.D.Door.table c.args.self.now.gate c.args.pass c.in_err-phase.field-0.0 c.leave.result (grind (arith, common_steps)) (search rules) in
    none_spent g.D.Door.table c.args.self.now.gate _ c.args.pass _ c.from_residual.result strange (grind (arith, common_steps)) c.from_residual.ensures.0

pub returns-in_err-phase-clause-spent : goal.returns-in_err-phase-clause-spent
returns-in_err-phase-clause-spent g c = back_on _ c.args.pass c.in_err-phase.field-0.0 c.leave.result c.from_residual.result (not_down c.args.self.now (Leave c.args.pass.gate c.args.pass.arm) c.args.file.now c.may_write.result (grind (arith, common_steps)) (search rules)) (search rules) c.from_residual.ensures ∙ grind (arith, common_steps)

pub invariant_of-self : goal.invariant_of-self
invariant_of-self g c = one_call_more g.D.Door.table c.args.self.now _ (handed (Leave c.args.pass.gate c.args.pass.arm) c.args.file.now) (search rules) (returns-in_err-phase-clause-after g c)

-- it accepts
pub overflow_cast-arm : goal.overflow_cast-arm
overflow_cast-arm g c =
    let few : c.arm-arm.result ≤ arm_limit = omega (arith, (spent_arm g.D.Door.table c.args.self.now.gate c.args.pass c.in_ok-phase.phase c.leave.result (grind (arith, common_steps)) (search rules)).1, c.may_write.ensures.few, c.arm-arm.ensures) in
    search rules

pub write-self-inside-requires : goal.write-self-inside-requires
write-self-inside-requires g c = record {
  small = omega (arith, (spent_arm g.D.Door.table c.args.self.now.gate c.args.pass c.in_ok-phase.phase c.leave.result (grind (arith, common_steps)) (search rules)).1, c.may_write.ensures.few, c.arm-arm.ensures);
  room = room_for c.self.inside.fit c.self.inside.written _ c.may_write.result (grind (arith, common_steps)) (search rules);
}

pub returns-clause-answer : goal.returns-clause-answer
returns-clause-answer g c = spent_on _ c.args.pass c.in_ok-phase.phase c.leave.result (not_down c.args.self.now (Leave c.args.pass.gate c.args.pass.arm) c.args.file.now c.may_write.result (grind (arith, common_steps)) (search rules)) (search rules) ∙ grind (arith, common_steps)

pub returns-clause-memory : goal.returns-clause-memory
returns-clause-memory g c =
    let down = not_down c.args.self.now (Leave c.args.pass.gate c.args.pass.arm) c.args.file.now c.may_write.result (grind (arith, common_steps)) (search rules) in
    memory_went g.D.Door.table c.args.self.now (handed (Leave c.args.pass.gate c.args.pass.arm) c.args.file.now) _ (Some (O.Leave c.args.pass.arm)) (added_order g.D.Door.table c.args.self.now (handed (Leave c.args.pass.gate c.args.pass.arm) c.args.file.now) down (spent_arm g.D.Door.table c.args.self.now.gate c.args.pass c.in_ok-phase.phase c.leave.result (grind (arith, common_steps)) (search rules)).0) (grind (arith, common_steps))

pub returns-clause-after : goal.returns-clause-after
returns-clause-after g c =
    let down = not_down c.args.self.now (Leave c.args.pass.gate c.args.pass.arm) c.args.file.now c.may_write.result (grind (arith, common_steps)) (search rules) in
    after_went g.D.Door.table c.args.self.now _ (handed (Leave c.args.pass.gate c.args.pass.arm) c.args.file.now) (Some (O.Leave c.args.pass.arm)) down (added_order g.D.Door.table c.args.self.now (handed (Leave c.args.pass.gate c.args.pass.arm) c.args.file.now) down (spent_arm g.D.Door.table c.args.self.now.gate c.args.pass c.in_ok-phase.phase c.leave.result (grind (arith, common_steps)) (search rules)).0) (grind (arith, common_steps))

pub returns-clause-spent : goal.returns-clause-spent
returns-clause-spent g c = spent_on _ c.args.pass c.in_ok-phase.phase c.leave.result (not_down c.args.self.now (Leave c.args.pass.gate c.args.pass.arm) c.args.file.now c.may_write.result (grind (arith, common_steps)) (search rules)) (search rules) ∙ grind (arith, common_steps)

pub invariant_of-self-2 : goal.invariant_of-self-2
invariant_of-self-2 g c = one_call_more g.D.Door.table c.args.self.now _ (handed (Leave c.args.pass.gate c.args.pass.arm) c.args.file.now) (search rules) (returns-clause-after g c)
