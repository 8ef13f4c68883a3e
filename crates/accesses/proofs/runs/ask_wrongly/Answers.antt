use Rattle.std.proofs.Common.{T, not, subst, sym, ◌∙◌, arith}
use Rattle.gate_model.specs.History.{is_in}
use Rattle.gate_model.specs.Phases.{same_phase}
use Rattle.gate_model.specs.declared.call.Call.TheVariants.{Begin, Admit}
use Rattle.gate_model.specs.declared.phase.Phase.TheVariants as P
use Rattle.accesses.proofs.Visits.{stays, no_way}
use Rattle.accesses.proofs.runs.ask_wrongly.Goals as goal

pub unwrap_err-requires-in-D-3 : goal.unwrap_err-requires-in-D-3
unwrap_err-requires-in-D-3 g c =
    let door = g.D.Door.table in
    let same = stays door c.begin.new.self.gate c.admit-in-D.new.self.gate (Admit c.args.arm) _ c.unwrap_err-in-D-2.result (sym c.admit-in-D.ensures.answer ∙ c.unwrap_err-in-D-2.ensures) c.admit-in-D.ensures.after
    ∙ stays door c.args.gate.now.gate c.begin.new.self.gate (Begin c.args.arm) P.D c.unwrap_err-in-D.result (sym c.begin.ensures.answer ∙ c.unwrap_err-in-D.ensures) c.begin.ensures.after in
    let busy = c.in-D.is in
    let e : T (not (same_phase c.args.phase P.W)) = grind arith in
    let here = subst (λ p. T (not (same_phase p P.W))) c.requires.phase e in
    no_way door c.admit-in-D.new.self.gate c.args.arm c.way-in-D.result (subst (λ s. T (not (is_in door P.W s c.args.arm))) (sym same) here) c.way-in-D.ensures.answer

pub returns-in-D : goal.returns-in-D
returns-in-D g c =
    let door = g.D.Door.table in
    let same = stays door c.begin.new.self.gate c.admit-in-D.new.self.gate (Admit c.args.arm) _ c.unwrap_err-in-D-2.result (sym c.admit-in-D.ensures.answer ∙ c.unwrap_err-in-D-2.ensures) c.admit-in-D.ensures.after
    ∙ stays door c.args.gate.now.gate c.begin.new.self.gate (Begin c.args.arm) P.D c.unwrap_err-in-D.result (sym c.begin.ensures.answer ∙ c.unwrap_err-in-D.ensures) c.begin.ensures.after in
    c.way-in-D.ensures.after ∙ same
