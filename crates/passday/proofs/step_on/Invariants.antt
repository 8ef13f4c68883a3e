use Rattle.std.proofs.Common.{◌≡◌}
use Rattle.gate.specs.Passes.{passes_out}
use Rattle.passday.proofs.step_on.Given as goal

abbrev pub invariant-loop : goal.invariant-loop
invariant-loop g l = passes_out g.D.Door.table l.gate ≡ passes_out g.D.Door.table l.initial.gate
