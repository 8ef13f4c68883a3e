use Rattle.dispatcher.proofs.OneMoveMore.{one_move}
use Rattle.accesses.proofs.moves.make_moves.Goals as goal

pub loop-t-preserved : goal.loop-t-preserved
loop-t-preserved g c = one_move g.D.Door.table _ c.loop-t.invariant c.make_move.ensures.after
