use Rattle.std.proofs.Common.{ap₂, ◌∙◌}
use Rattle.ring.specs.Spans.{laid}
use Rattle.ring.proofs.Calls.{put_items}
use Rattle.ring.proofs.ring.Ring.put.Goals as goal

pub returns-clause-items : goal.returns-clause-items
returns-clause-items g c = rw (← c.self.view_is) (ap₂ laid c.put.ensures.span c.put.ensures.memory ∙ put_items c.self.inside.span c.self.inside.memory.now c.self.invariant c.args.item)
