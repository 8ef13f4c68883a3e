use Rattle.std.proofs.Common.{rules}
use Rattle.overtaking.proofs.Turns.{turns_law}
use Rattle.gate.proofs.RecordsRead.{index_told}
use Rattle.gate.proofs.gate.Gate.look.Goals as goal

pub returns-clause-turns : goal.returns-clause-turns
returns-clause-turns g c = let door = g.met.D.Door in turns_law g.D.Door.table door.phased door.rules door.bits c.args.self.now

pub returns-in_err-record-clause-turns : goal.returns-in_err-record-clause-turns
returns-in_err-record-clause-turns g c = let door = g.met.D.Door in turns_law g.D.Door.table door.phased door.rules door.bits c.args.self.now

pub returns-clause-index : goal.returns-clause-index
returns-clause-index g c =
    index_told g.D.Door.table g.met.D.Door.indexes c.args.self.now c.record.ensures.gate.reached c.args.arm c.record.result c.in_ok-record.record _ _
    c.record.ensures.record c.in_ok-record.was (search rules) (search rules)
