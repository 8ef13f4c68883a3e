-- A gate with no visit begun.
use Rattle.std.specs.Prelude.{◌≡◌, ℕ, T}
use Rattle.gate_model.specs.Rules.{Always}
use Rattle.gate_model.specs.States.{State, is_arm, arm_at}
use Rattle.gate_model.specs.Table.{Table}

-- no visit of any of its arms was begun
abbrev pub Unbegun : {At : Type 0} → Table At → State At → Type 0
Unbegun door s = (i : ℕ) → T (is_arm s i) → (arm_at door s i).visits ≡ 0

-- such a gate is the gate just made, whatever was called
abbrev pub AsMade : {At : Type 0} → Table At → Type 0
AsMade door = Always door (λ start past s. Unbegun door s → s ≡ start)
