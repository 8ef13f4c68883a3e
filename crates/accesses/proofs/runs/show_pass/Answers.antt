use Rattle.std.proofs.Common.{sym, ap, ◌∙◌}
use Rattle.gate_model.specs.Calls.{after}
use Rattle.gate_model.specs.declared.call.Call.TheVariants.{Leave}
use Rattle.gate.specs.Answers.{leave_answer}
use Rattle.three_bits.specs.Positions.{three_bits}
use Rattle.accesses.proofs.Visits.{admitted, of_another, strange, taken_back, visit}
use Rattle.accesses.proofs.runs.show_pass.Goals as goal

pub unwrap-requires : goal.unwrap-requires
unwrap-requires g c =
    let back = strange g.D.Door.table c.confirm.new.self.gate c.leave.new.self.gate c.confirm.result.0 c.unwrap_err.result (sym c.leave.ensures.answer ∙ c.unwrap_err.ensures) c.leave.ensures.after in
    taken_back three_bits c.admit.new.self c.admit.result c.unwrap-pass.result c.leave-2.result c.admit.ensures.known c.unwrap-pass.ensures
    (c.leave-2.ensures.answer ∙ ap (leave_answer three_bits c.admit.new.self) (back.1 ∙ c.confirm.ensures.same))

pub returns-clause-gate : goal.returns-clause-gate
returns-clause-gate g c =
    (strange g.D.Door.table c.confirm.new.self.gate c.leave.new.self.gate c.confirm.result.0 c.unwrap_err.result (sym c.leave.ensures.answer ∙ c.unwrap_err.ensures) c.leave.ensures.after).0
    ∙ c.confirm.ensures.after

pub returns-clause-other : goal.returns-clause-other
returns-clause-other g c =
    let back = strange g.D.Door.table c.confirm.new.self.gate c.leave.new.self.gate c.confirm.result.0 c.unwrap_err.result (sym c.leave.ensures.answer ∙ c.unwrap_err.ensures) c.leave.ensures.after in
    visit three_bits c.args.other.now c.admit.new.self c.leave-2.new.self 1 c.unwrap-pass.result c.requires.inside (sym c.admit.ensures.answer ∙ c.unwrap-pass.ensures)
    c.admit.ensures.after (c.leave-2.ensures.after ∙ ap (λ pass. after three_bits c.admit.new.self (Leave pass.gate pass.arm)) (back.1 ∙ c.confirm.ensures.same))

pub unwrap_err-requires : goal.unwrap_err-requires
unwrap_err-requires g c =
    let given = (admitted three_bits c.args.other.now 1 c.unwrap-pass.result c.requires.inside (sym c.admit.ensures.answer ∙ c.unwrap-pass.ensures)).0 in
    let here = ap (λ s. s.number) c.confirm.ensures.after in
    of_another g.D.Door.table c.confirm.new.self.gate c.confirm.result.0 c.leave.result
    (λ e. c.requires.numbers (sym here ∙ sym e ∙ ap (λ p. p.gate) c.confirm.ensures.same ∙ given)) c.leave.ensures.answer
