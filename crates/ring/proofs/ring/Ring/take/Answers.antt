use Rattle.std.proofs.Common.{ap, ◌∙◌}
use Rattle.ring.specs.Spans.{laid}
use Rattle.ring.proofs.Calls.{taken_items}
use Rattle.ring.proofs.ring.Ring.take.Goals as goal

pub returns-clause-items : goal.returns-clause-items
returns-clause-items g c =
    let slots = c.self.inside.memory.now in
    rw (← c.self.view_is) (ap (λ s. laid s slots) c.drop_first.ensures.span ∙ taken_items c.self.inside.span slots c.self.invariant)
