use Rattle.std.proofs.Common.{arith}
use Rattle.plantday.proofs.lend.Goals as goal

pub returns : goal.returns
returns g c = let held = c.day_over.ensures.registers in let e = held.2 in (_, (held.0, held.1, grind (arith, e), held.3))
