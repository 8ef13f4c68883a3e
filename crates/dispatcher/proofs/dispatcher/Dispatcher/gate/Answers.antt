use Rattle.dispatcher.proofs.Served.{law_of_moves}
use Rattle.dispatcher.proofs.dispatcher.Dispatcher.gate.Goals as goal

pub returns-clause-law : goal.returns-clause-law
returns-clause-law g c = let door = g.met.D.Door in rw (← c.self.view_is) (law_of_moves g.D.Door.table door.phased door.rules door.way _ c.self.invariant)
