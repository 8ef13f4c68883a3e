-- The index of an arm: which arm it looks at while it waits.
use Rattle.std.specs.Prelude.{◌≡◌, ℕ, ◌≤◌, T}
use Rattle.gate_model.specs.Table.{Table}
use Rattle.gate_model.specs.States.{is_arm, arm_at, phase_at}
use Rattle.gate_model.specs.Rules.{Always}
use Rattle.gate_model.specs.declared.phase.Phase.{Phase}
use Rattle.gate_model.specs.declared.phase.Phase.TheVariants as P

-- the index j of an arm in a phase, in a gate of n arms, is 1 to n while the arm waits, else 0
abbrev pub IndexFits : ℕ → Phase → ℕ → Type 0
IndexFits n P.W j = (1 ≤ j) × (j ≤ n)
IndexFits n p j = j ≡ 0

-- the door shows it of every arm, whatever was called before
abbrev pub ShowsIndexes : {At : Type 0} → Table At → Type 0
ShowsIndexes door = Always door (λ start past s. (i : ℕ) → T (is_arm s i) → IndexFits s.n (phase_at door s i) (door.index (arm_at door s i).position))
