use Rattle.std.proofs.Common.{refl}
use Rattle.ring.specs.Spans.{laid}
use Rattle.ring.proofs.ring.Ring.over.Goals as goal

pub returns-clause-items : goal.returns-clause-items
unfolding laid
returns-clause-items g c = refl
