use Rattle.std.proofs.Common.{arith}
use Rattle.std.proofs.lemmas.Grind.{common_steps}
use Rattle.recorder.proofs.InHand.{over_a_gate}
use Rattle.recorder.proofs.started.Started.over.Goals as goal

pub returns : goal.returns
returns g c = grind (arith, common_steps)

pub invariant_of-result : goal.invariant_of-result
invariant_of-result g c = over_a_gate g.D.Door.table c.args.self c.args.gate _ c.is_recorded-fit.ensures.gate.reached (returns g c)
