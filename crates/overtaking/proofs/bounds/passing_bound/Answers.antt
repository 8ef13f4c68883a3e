use Rattle.overtaking.proofs.Bound.{passing}
use Rattle.overtaking.proofs.bounds.passing_bound.Goals as goal

pub returns : goal.returns
returns g c door phased rules making past = passing phased rules making past
