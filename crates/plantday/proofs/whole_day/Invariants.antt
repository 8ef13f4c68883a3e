use Rattle.std.proofs.Common.{◌≡◌}
use Rattle.plantday.specs.Day.{Called}
use Rattle.plantday.specs.Turns.{seed, plant, turns_of}
use Rattle.plantday.proofs.whole_day.Given as goal

-- only calls were made on the gate so far, by so many turns of the day
abbrev pub invariant-loop-t : goal.invariant-loop-t
invariant-loop-t g l =
    let door = g.D.Door.table in
    record {
      calls : Called door l.initial.gate l.gate;
      turns : plant l.gate l.dice.state l.record ≡ turns_of door l.t (plant l.initial.gate seed l.initial.record);
    }
