use Rattle.gate.proofs.StaySame.{stay_same}
use Rattle.gate.proofs.comparing.same.Goals as goal

pub returns-clause-law : goal.returns-clause-law
returns-clause-law g c t = stay_same g.D.Door.table g.met.D.Door.accesses g.met.D.Door.some_room _ _ c.compare.ensures.gate.reached c.compare.ensures.other.reached (c.compare.ensures.same.0 t)
