use Rattle.std.specs.Coded.{Coded-set}
use Rattle.recorder.proofs.Kept.{in_hand}
use Rattle.recorder.proofs.Replayed.{law_of_records}
use Rattle.recorder.proofs.recorder.Recorder.gate.Goals as goal

pub returns-clause-law : goal.returns-clause-law
returns-clause-law g c = let door = g.met.D.Door in law_of_records g.D.Door.table (Coded-set g.row.D.coded) door.phased door.accesses door.some_room _

pub returns-clause-in_hand : goal.returns-clause-in_hand
returns-clause-in_hand g c = in_hand g.D.Door.table _ (returns-clause-law g c)
