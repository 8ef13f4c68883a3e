use Rattle.std.proofs.Common.{◌≡◌, take}
use Rattle.gate_model.specs.Calls.{run}
use Rattle.gate.proofs.carrying.carry_out.Given as goal

-- the calls so far are carried out
abbrev pub invariant-loop-call : goal.invariant-loop-call
invariant-loop-call g l =
    l.gate
    ≡ run g.D.Door.table l.initial.gate (take l.call-index l.calls)
