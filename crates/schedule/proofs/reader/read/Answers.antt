use Rattle.std.proofs.Common.{◌≡◌, Ok, arith}
use Rattle.std.proofs.lemmas.Grind.{common_steps}
use Rattle.schedule.specs.Reading.{says}
use Rattle.schedule.proofs.Inverse.{was_read}
use Rattle.schedule.proofs.reader.read.Goals as goal

pub returns-clause-inverse : goal.returns-clause-inverse
returns-clause-inverse c =
    let all = c.in_ok-schedule.schedule in
    let read : says c.args.file.now ≡ Ok all = grind (arith, common_steps) in
    rw c.heading-heading.ensures
    (was_read c.args.file.now c.args.orders.now c.put_orders.new.memory all (λ i. omega (arith, c.type_inv.file i)) read (grind arith) c.put_orders.ensures)
