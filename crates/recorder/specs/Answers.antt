-- What the calls of a recorder answer, and what they make of the passes that are out.
use Rattle.std.specs.Prelude.{ℕ, Bool, ◌||◌, Ok, Err, Some, None, Option, Result}
use Rattle.gate.specs.Passes.{names, without}
use Rattle.gate.specs.declared.pass.HandedBack as G
use Rattle.gate.specs.declared.pass.Pass.{Pass}
use Rattle.gate_model.specs.declared.phase.Phase.{Phase}
use Rattle.gate_model.specs.declared.refusal.Refusal as M
use Rattle.recorder.specs.declared.recorder.HandedBack.{HandedBack}
use Rattle.recorder.specs.declared.refusal.Refusal.{Refusal}
use Rattle.recorder.specs.declared.refusal.Refusal.TheVariants.{Gate}

-- x where nothing was refused
abbrev pub unless_refused : {X : Type 0} → Option Refusal → X → Result X Refusal
unless_refused None x = Ok x
unless_refused (Some refusal) x = Err refusal

-- the gate's answer, where the recorder did not turn the call down
abbrev pub passed_on : {X : Type 0} → Option Refusal → Result X M.Refusal → Result X Refusal
passed_on None (Ok x) = Ok x
passed_on None (Err refusal) = Err (Gate refusal)
passed_on (Some refusal) answer = Err refusal

-- the same of a leave: a refusal hands the pass back
abbrev pub leave_passed_on : Pass → Option Refusal → Result Phase G.HandedBack → Result Phase HandedBack
leave_passed_on pass None (Ok phase) = Ok phase
leave_passed_on pass None (Err back) = Err (record { pass = back.pass; refusal = Gate back.refusal })
leave_passed_on pass (Some refusal) answer = Err (record { pass = pass; refusal = refusal })

-- the passes that are out after an admit: the one that was given too
abbrev pub with_given : Result Pass Refusal → (ℕ → ℕ → Bool) → ℕ → ℕ → Bool
with_given (Ok p) out gate arm = out gate arm || names p gate arm
with_given (Err refusal) out gate arm = out gate arm

-- the passes that are out after a leave: without the one that it spent
abbrev pub with_spent : Pass → Result Phase HandedBack → (ℕ → ℕ → Bool) → ℕ → ℕ → Bool
with_spent p (Ok phase) out = without p out
with_spent p (Err back) out = out
