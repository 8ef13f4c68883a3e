use Rattle.std.proofs.Common.{◌≡◌}
use Rattle.gate_model.specs.Making.{cleared, cleared_memory}
use Rattle.gate.proofs.making.clear.Given as goal

abbrev pub invariant-loop-i : goal.invariant-loop-i
invariant-loop-i g l = (g.B.Bank.values l.bank ≡ cleared g.D.Door.table l.i (g.B.Bank.values l.initial.bank)) × (g.B.Bank.memory l.bank ≡ cleared_memory g.D.Door.table l.i (g.B.Bank.memory l.initial.bank))
