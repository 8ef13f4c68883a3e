use Rattle.schedule.proofs.Inverse.{inverse, lawful_file}
use Rattle.schedule.proofs.writer.is_lawful.Goals as goal

pub returns-clause-answer : goal.returns-clause-answer
returns-clause-answer c = lawful_file c.args.arms c.args.orders.now c.has_file.result c.has_file.ensures

pub returns-clause-laws : goal.returns-clause-laws
returns-clause-laws c = inverse
