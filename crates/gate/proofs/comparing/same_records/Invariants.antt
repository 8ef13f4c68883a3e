use Rattle.gate.specs.SameParts.{SameRecord}
use Rattle.std.proofs.Common.{ℕ, ◌<◌, get_or}
use Rattle.gate_model.specs.Arms.{no_arm}
use Rattle.gate.proofs.comparing.same_records.Given as goal

abbrev pub invariant-loop-k : goal.invariant-loop-k
invariant-loop-k g l = (j : ℕ) → j < l.k → SameRecord l.n (get_or l.a j (no_arm g.D.Door.table)) (get_or l.b j (no_arm g.D.Door.table))
