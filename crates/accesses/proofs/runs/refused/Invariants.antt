use Rattle.std.proofs.Common.{◌≡◌}
use Rattle.accesses.specs.Runs.{run_of}
use Rattle.accesses.proofs.runs.refused.Given as goal

-- so many turns were made, and the gates stay what they are
abbrev pub invariant-loop-t : goal.invariant-loop-t
invariant-loop-t g l =
    record {
      ran : l.gate.gate ≡ run_of g.D.Door.table l.t l.initial.gate.gate;
      arms : l.gate.gate.n ≡ l.initial.gate.gate.n;
      number : l.gate.gate.number ≡ l.initial.gate.gate.number;
      others : l.other.n ≡ l.initial.other.n;
      other_number : l.other.number ≡ l.initial.other.number;
    }
