use Rattle.accesses.specs.Moves.{MovesMade}
use Rattle.accesses.proofs.moves.make_moves.Given as goal

-- so many moves were made
abbrev pub invariant-loop-t : goal.invariant-loop-t
invariant-loop-t g l = MovesMade g.D.Door.table l.t l.initial.dispatcher.dispatcher l.dispatcher.dispatcher
