use Rattle.std.proofs.Common.{sym, ap, ◌∙◌}
use Rattle.gate_model.specs.Calls.{after}
use Rattle.gate_model.specs.declared.call.Call.TheVariants.{Admit, Leave}
use Rattle.gate.specs.Answers.{leave_answer}
use Rattle.accesses.proofs.Visits.{stays, given_once, taken_back, visit}
use Rattle.accesses.proofs.runs.visit.Goals as goal

pub unwrap-requires : goal.unwrap-requires
unwrap-requires g c =
    let door = g.D.Door.table in
    let given = c.admit.new.self.gate in
    let same = c.confirm.ensures.after ∙ stays door given c.admit-2.new.self.gate (Admit c.args.arm) _ c.unwrap_err.result (sym c.admit-2.ensures.answer ∙ c.unwrap_err.ensures) c.admit-2.ensures.after in
    taken_back door given c.admit.result c.unwrap-pass.result c.leave.result c.admit.ensures.known c.unwrap-pass.ensures
    (c.leave.ensures.answer ∙ ap (leave_answer door c.confirm.new.self.gate) c.confirm.ensures.same ∙ ap (λ s. leave_answer door s c.unwrap-pass.result) same)

pub returns : goal.returns
returns g c =
    let door = g.D.Door.table in
    let given = c.admit.new.self.gate in
    let same = c.confirm.ensures.after ∙ stays door given c.admit-2.new.self.gate (Admit c.args.arm) _ c.unwrap_err.result (sym c.admit-2.ensures.answer ∙ c.unwrap_err.ensures) c.admit-2.ensures.after in
    visit door c.args.gate.now.gate c.confirm.new.self.gate c.leave.new.self.gate c.args.arm c.unwrap-pass.result c.requires (sym c.admit.ensures.answer ∙ c.unwrap-pass.ensures)
    (same ∙ c.admit.ensures.after) (c.leave.ensures.after ∙ ap (λ pass. after door c.confirm.new.self.gate (Leave pass.gate pass.arm)) c.confirm.ensures.same)

pub unwrap_err-requires : goal.unwrap_err-requires
unwrap_err-requires g c = given_once g.D.Door.table c.args.gate.now.gate c.admit.new.self.gate c.args.arm c.admit.result c.unwrap-pass.result c.admit-2.result c.requires c.admit.ensures.answer c.unwrap-pass.ensures c.admit.ensures.known c.admit-2.ensures.answer
