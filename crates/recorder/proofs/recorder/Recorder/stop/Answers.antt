use Rattle.std.specs.Coded.{Coded-set}
use Rattle.recorder.proofs.Replayed.{law_of_records}
use Rattle.recorder.proofs.recorder.Recorder.stop.Goals as goal

pub returns-clause-law : goal.returns-clause-law
returns-clause-law g c = let door = g.met.D.Door in law_of_records g.D.Door.table (Coded-set g.row.D.coded) door.phased door.accesses door.some_room _
