use Rattle.std.proofs.Common.{arith}
use Rattle.gate_model.proofs.Origins.{reached_made}
use Rattle.dispatcher.proofs.NoPassOut.{started_spent}
use Rattle.dispatcher.proofs.dispatcher.Dispatcher.new.Goals as goal

pub invariant_of-result : goal.invariant_of-result
invariant_of-result g c = record {
  within = omega arith;
  spent = started_spent g.D.Door.table _ _ c.make-gate.ensures.made;
  reached = reached_made g.D.Door.table _ _ c.make-gate.ensures.made;
}
