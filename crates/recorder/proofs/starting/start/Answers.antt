use Rattle.std.proofs.Common.{length, arith}
use Rattle.std.proofs.lemmas.Grind.{common_steps}
use Rattle.gate_model.proofs.AsMade.{as_made}
use Rattle.recorder.proofs.Fit.{starts}
use Rattle.recorder.proofs.starting.start.Goals as goal

pub unwrap-written-requires : goal.unwrap-written-requires
unwrap-written-requires g c =
    starts g.D.Door.table c.args.gate.now (length c.args.file.now) c.start.result c.arm_count-arms.ensures.gate.few (grind (arith, common_steps)) (grind (arith, common_steps)) (grind (arith, common_steps))

pub returns-then-not-is_fit-clause-as_made : goal.returns-then-not-is_fit-clause-as_made
returns-then-not-is_fit-clause-as_made g c = as_made g.D.Door.table g.met.D.Door.phased

pub returns-then-not-has_room-clause-as_made : goal.returns-then-not-has_room-clause-as_made
returns-then-not-has_room-clause-as_made g c = as_made g.D.Door.table g.met.D.Door.phased

pub returns-clause-as_made : goal.returns-clause-as_made
returns-clause-as_made g c = as_made g.D.Door.table g.met.D.Door.phased
