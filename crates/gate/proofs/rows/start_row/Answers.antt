use Rattle.std.proofs.Common.{refl, arith, rules}
use Rattle.gate.proofs.Noting.{noting_begins, noting_goes_on, noting_ends}
use Rattle.gate.proofs.rows.start_row.Goals as goal

pub loop-j-init : goal.loop-j-init
loop-j-init g c = noting_begins g.D.Door.table c.args.arms.now c.args.k (omega (arith, c.requires.arm, c.told-arms)) _ c.index-arms-k.result c.index-arms-k-2.result refl c.index-arms-k.is c.index-arms-k-2.is

pub loop-j-preserved : goal.loop-j-preserved
loop-j-preserved g c =
    noting_goes_on g.D.Door.table c.args.arms.now c.args.k (omega (arith, c.requires.arm, c.told-arms))
    c.loop-j.j c.loop-j.arms c.index-arms-k-in-loop-j.result c.eq.result c.loop-j.invariant c.index-arms-k-in-loop-j.is (search rules)

pub returns : goal.returns
returns g c = noting_ends g.D.Door.table c.args.arms.now c.args.k c.loop-j.j c.loop-j.arms c.args.n c.told-arms c.loop-j.invariant c.loop-j-test.false c.requires.rest
