use Rattle.std.proofs.Common.{◌≡◌}
use Rattle.dispatchday.specs.WaitTimes.{no_waits}
use Rattle.dispatchday.specs.Day.{MovesMade, host, nothing_lost, day_of}
use Rattle.dispatchday.proofs.host.day.Given as goal

-- so many turns of the day were made, with a move each
abbrev pub invariant-loop-time : goal.invariant-loop-time
invariant-loop-time g l =
    let door = g.D.Door.table in
    let start = l.initial in
    record {
      moves : MovesMade door l.time start.dispatcher l.dispatcher;
      day : host l.dispatcher l.asked l.readings l.lost l.waits ≡ day_of door l.time (host start.dispatcher start.asked start.readings nothing_lost no_waits);
    }
