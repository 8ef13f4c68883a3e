-- Which passes are out, that is, good for a leave; and what the calls make of them.
use Rattle.std.specs.Prelude.{ℕ, Bool, true, false, not, ◌&&◌, ◌||◌, Ok, Err, Result, ◌==◌}
use Rattle.gate_model.specs.Table.{Table}
use Rattle.gate_model.specs.Calls.{knows}
use Rattle.gate_model.specs.States.{State}
use Rattle.gate_model.specs.declared.phase.Phase.{Phase}
use Rattle.gate_model.specs.declared.phase.Phase.TheVariants as P
use Rattle.gate_model.specs.declared.refusal.Refusal.{Refusal}
use Rattle.gate_model.specs.declared.refusal.Refusal.TheVariants as R
use Rattle.gate.specs.declared.pass.HandedBack.{HandedBack}
use Rattle.gate.specs.declared.pass.Pass.{Pass}

-- whether the pass with this gate number and arm is out: what confirm answers
-- (not an abbreviation, so that the passes of two states are compared as whole functions)
unfoldable pub passes_out : {At : Type 0} → Table At → State At → ℕ → ℕ → Bool
passes_out door s gate arm = knows door s gate arm

-- whether a pass has this gate number and arm
abbrev pub names : Pass → ℕ → ℕ → Bool
names p gate arm = arm == p.arm && gate == p.gate

-- the passes that are out, and the one that was given, if one was
abbrev pub with_given : Result Pass Refusal → (ℕ → ℕ → Bool) → ℕ → ℕ → Bool
with_given (Ok p) out gate arm = out gate arm || names p gate arm
with_given (Err r) out gate arm = out gate arm

-- the passes that are out, without this one
abbrev pub without : Pass → (ℕ → ℕ → Bool) → ℕ → ℕ → Bool
without p out gate arm = out gate arm && not (names p gate arm)

-- what leave answers: a pass that is not out is handed back
abbrev pub spent_if : Bool → Pass → Result Phase HandedBack
spent_if true p = Ok P.X
spent_if false p = Err (record { pass = p; refusal = R.StrangePass })
