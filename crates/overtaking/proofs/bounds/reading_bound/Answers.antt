use Rattle.gate_model.proofs.Doorways.{reading}
use Rattle.overtaking.proofs.bounds.reading_bound.Goals as goal

pub returns : goal.returns
returns g c door phased rules reads making past = reading door phased rules reads making past
