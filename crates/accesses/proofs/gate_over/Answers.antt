use Rattle.std.proofs.Common.{ap, ◌∙◌, rules}
use Rattle.bank.specs.Lent.{unlogged}
use Rattle.gate_model.specs.States.{made}
use Rattle.accesses.proofs.gate_over.Goals as goal

pub returns : goal.returns
returns g c = c.make.ensures ∙ ap (λ regs. made g.D.Door.table (record { memory = unlogged 0; high = 255; number = 1; wanted = c.args.wanted; regs = regs })) (search rules)
