use Rattle.schedule.proofs.Inverse.{was_written}
use Rattle.schedule.proofs.writer.write.Goals as goal

pub returns-clause-inverse : goal.returns-clause-inverse
returns-clause-inverse c =
    was_written c.args.arms c.args.orders.now c.args.out.now c.fill.new.out c.in_ok-size.size c.fill.result c.in_ok-size.ensures c.fill.ensures.end c.fill.ensures.after
