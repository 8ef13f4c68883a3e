-- Passes that a host may hold or not, as it takes and spends them.
use Rattle.std.specs.Prelude.{◌≡◌, ℕ, Bool, true, not, ◌&&◌, ◌||◌, Some, None, Option, IfSome}
use Rattle.gate_model.specs.Table.{Table}
use Rattle.gate_model.specs.States.{State}
use Rattle.gate.specs.Passes.{passes_out, names}
use Rattle.gate.specs.declared.pass.Pass.{Pass}

-- the passes that are out, and the one that was taken, if one was
abbrev pub out_with : Option Pass → (ℕ → ℕ → Bool) → ℕ → ℕ → Bool
out_with (Some p) out gate arm = out gate arm || names p gate arm
out_with None out gate arm = out gate arm

-- the passes that are out, without the one that was spent, if one was
abbrev pub out_without : Option Pass → (ℕ → ℕ → Bool) → ℕ → ℕ → Bool
out_without (Some p) out gate arm = out gate arm && not (names p gate arm)
out_without None out gate arm = out gate arm

-- a pass that is held is of this arm, and out
abbrev pub IsHeld : {At : Type 0} → Table At → State At → ℕ → Option Pass → Type 0
IsHeld door s arm held = IfSome held (λ pass. (pass.arm ≡ arm) × (passes_out door s pass.gate pass.arm ≡ true))
