use Rattle.overtaking.proofs.Takes.{taking}
use Rattle.overtaking.proofs.bounds.taking_bound.Goals as goal

pub returns : goal.returns
returns g c door phased rules = taking door phased rules
