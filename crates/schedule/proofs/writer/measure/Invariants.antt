use Rattle.std.proofs.Common.{◌≡◌, ◌+◌, ◌*◌, ◌≤◌, true, length, take}
use Rattle.schedule.specs.Writing.{file_bytes, are_small}
use Rattle.schedule.proofs.writer.measure.Given as goal

-- the size is that of the file of the first i orders, which are all small; a number has at most two bytes
abbrev pub invariant-loop-i : goal.invariant-loop-i
invariant-loop-i l = record {
  size_is : l.size ≡ length (file_bytes l.arms (take l.i l.orders));
  small : are_small (take l.i l.orders) ≡ true;
  short : l.size ≤ 2 * l.i + 2;
}
