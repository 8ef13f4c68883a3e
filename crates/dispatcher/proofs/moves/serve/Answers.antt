use Rattle.std.proofs.Common.{sym, ◌∙◌}
use Rattle.dispatcher.proofs.MoveByCalls.{inside_served}
use Rattle.dispatcher.proofs.moves.serve.Goals as goal

pub returns-then-is_inside : goal.returns-then-is_inside
returns-then-is_inside g c =
    record {
      gate = inside_served g.D.Door.table c.args.gate.now c.let_go.new.self c.args.arm c.requires.spent
          (sym c.is_inside.ensures ∙ c.if-is_inside.true) c.let_go.ensures.after;
    }
