use Rattle.std.proofs.Common.{arith}
use Rattle.std.proofs.lemmas.Grind.{common_steps}
use Rattle.schedule.proofs.OneMoreNumber.{next_within, one_more_number}
use Rattle.schedule.proofs.writer.fill.Goals as goal

pub put_order-at-requires-clause-room : goal.put_order-at-requires-clause-room
put_order-at-requires-clause-room c = grind (arith, next_within)

pub loop-i-preserved : goal.loop-i-preserved
loop-i-preserved c = grind (arith, common_steps, one_more_number)
