use Rattle.std.proofs.Common.{◌≡◌, ◌<◌, ◌++◌, length, take, drop}
use Rattle.schedule.specs.Writing.{file_bytes}
use Rattle.schedule.proofs.writer.fill.Given as goal

-- the bytes written so far are the file of the first i orders, and the rest of the memory is as it was
abbrev pub invariant-loop-i : goal.invariant-loop-i
invariant-loop-i l = record {
  end : l.at ≡ length (file_bytes l.arms (take l.i l.orders));
  some : l.i < l.at;
  after : l.out ≡ file_bytes l.arms (take l.i l.orders) ++ drop l.at l.fn.out;
}
