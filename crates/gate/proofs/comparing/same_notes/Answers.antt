use Rattle.gate.proofs.FirstEqual.{notes_equal}
use Rattle.gate.proofs.comparing.same_notes.Goals as goal

pub returns : goal.returns
returns c = notes_equal c.args.n c.args.a.now c.args.b.now c.eq.result c.requires c.told-a c.told-b c.eq.ensures
