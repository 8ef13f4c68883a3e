use Rattle.std.proofs.Common.{refl, arith}
use Rattle.gate_model.specs.Making.{largest}
use Rattle.plantday.proofs.main.Goals as goal

-- each plant has the registers of six arms
pub memory_after_day-requires : goal.memory_after_day-requires
unfolding largest
memory_after_day-requires c = (omega arith, (omega arith, refl))

pub memory_after_day-requires-2 : goal.memory_after_day-requires-2
unfolding largest
memory_after_day-requires-2 c = (omega arith, (omega arith, refl))
