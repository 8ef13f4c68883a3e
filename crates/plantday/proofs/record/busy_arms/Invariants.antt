use Rattle.std.proofs.Common.{◌≡◌, map, take, length}
use Rattle.std.specs.List.{range_with_len}
use Rattle.plantday.specs.Records.{plant_arms, is_busy}
use Rattle.plantday.proofs.record.busy_arms.Given as goal

-- the first places are filled
abbrev pub invariant-loop-k : goal.invariant-loop-k
invariant-loop-k g l = record { places : length l.busy ≡ plant_arms; filled : take l.k l.busy ≡ map (is_busy g.D.Door.table l.gate) (range_with_len 0 l.k) }
