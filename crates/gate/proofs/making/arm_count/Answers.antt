use Rattle.std.proofs.Common.{◌≡◌, ℕ, ◌≤◌, min, length, sym, ◌∙◌, arith}
use Rattle.std.proofs.lemmas.Bool.Decides.{nat_tests}
use Rattle.gate_model.specs.Limits.{arm_limit}
use Rattle.gate_model.specs.Table.{Table}
use Rattle.gate_model.specs.Making.{largest, arms_for}
use Rattle.gate_model.proofs.Rooms.{largest_none, largest_here, largest_down}
use Rattle.gate.proofs.making.arm_count.Goals as goal

-- the count that the search from above stopped at
found : {At : Type 0} (door : Table At) (high len wanted n : ℕ) → door.needed ≤ high → largest door len n ≡ largest door len (min wanted arm_limit) → largest door len n ≡ n
    → n ≡ arms_for door high len wanted
found door high len wanted n enough inv here = grind (arith, nat_tests)

pub loop-n-preserved : goal.loop-n-preserved
loop-n-preserved g c = (
  omega arith,
  largest_down g.D.Door.table (length (g.B.Bank.values c.args.bank.now)) c.loop-n.n c.loop-n-test.true (sym c.if-not-has_registers.ensures)
      ∙ c.loop-n.invariant.1,
)

pub returns-else-not-has_registers : goal.returns-else-not-has_registers
returns-else-not-has_registers g c =
    let len = length (g.B.Bank.values c.args.bank.now) in
    found g.D.Door.table g.B.Bank.HIGHEST len c.args.wanted c.loop-n.n (omega (arith, c.if-HIGHEST-needed.false)) c.loop-n.invariant.1
    (largest_here g.D.Door.table len c.loop-n.n c.loop-n-test.true (sym c.if-not-has_registers.ensures))

pub returns-after-loop-n : goal.returns-after-loop-n
returns-after-loop-n g c =
    let len = length (g.B.Bank.values c.args.bank.now) in
    found g.D.Door.table g.B.Bank.HIGHEST len c.args.wanted c.loop-n.n (omega (arith, c.if-HIGHEST-needed.false)) c.loop-n.invariant.1
    (largest_none g.D.Door.table len c.loop-n.n (omega arith))
