use Rattle.std.proofs.Common.{rules, subst}
use Rattle.bank.specs.Lent.{unlogged}
use Rattle.gate_model.specs.States.{made}
use Rattle.plantday.specs.Day.{of_plant, FairDay}
use Rattle.plantday.proofs.day_over.Goals as goal

pub returns-clause-registers : goal.returns-clause-registers
returns-clause-registers g c =
    let door = g.D.Door.table in
    let gate = c.whole_day-gate.result in
    let bank = c.new.ensures in
    let over = subst (λ bytes. FairDay door (made door (of_plant (unlogged c.new.result.ghost_name) 255 bytes)) gate) bank.holds c.whole_day-gate.ensures.fair in (
      gate,
      subst (λ name. FairDay door (made door (of_plant (unlogged name) 255 c.args.memory.now)) gate) bank.lent over,
      search rules,
      search rules,
    )
