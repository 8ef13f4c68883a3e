use Rattle.std.proofs.Common.{◌≡◌, ℕ, ◌<◌, ◌≤◌, length, get_or}
use Rattle.gate_model.specs.Limits.{arm_limit}
use Rattle.gate_model.specs.Arms.{no_arm}
use Rattle.gate_model.specs.Tallies.{counted}
use Rattle.gate.proofs.rows.count_entry.Given as goal

-- the records below k are counted, the others as they were
abbrev pub invariant-loop-k : goal.invariant-loop-k
invariant-loop-k g l =
    (length l.arms ≡ arm_limit)
    × ((j : ℕ) → j < l.k → get_or l.arms j (no_arm g.D.Door.table) ≡ counted g.D.Door.table l.b (get_or l.initial.arms j (no_arm g.D.Door.table)))
    × ((j : ℕ) → l.k ≤ j → get_or l.arms j (no_arm g.D.Door.table) ≡ get_or l.initial.arms j (no_arm g.D.Door.table))
