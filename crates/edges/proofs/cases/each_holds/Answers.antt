use Rattle.edges.proofs.Table.{every_case}
use Rattle.edges.proofs.cases.each_holds.Goals as goal

pub returns : goal.returns
returns c = every_case
