use Rattle.std.proofs.Common.{Ok, rules}
use Rattle.overtaking.proofs.Fairness.{law, tells_so}
use Rattle.gate.proofs.gate.Gate.way.Goals as goal

pub returns-clause-told : goal.returns-clause-told
returns-clause-told g c =
    let door = g.met.D.Door in
    tells_so g.D.Door.table door.phased door.rules door.way c.args.self.now c.args.arm (Ok c.is_free.result) c.waits.ensures.gate.reached (search rules)

pub returns-clause-law : goal.returns-clause-law
returns-clause-law g c = let door = g.met.D.Door in law g.D.Door.table door.phased door.rules door.way door.reads c.args.self.now

pub returns-in_err-record-clause-law : goal.returns-in_err-record-clause-law
returns-in_err-record-clause-law g c = let door = g.met.D.Door in law g.D.Door.table door.phased door.rules door.way door.reads c.args.self.now
