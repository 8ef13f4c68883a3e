use Rattle.std.proofs.Common.{◌≡◌, ℕ, Bool, true, false, Ok, Err, Some, None, Option, Result, IfErr, sym, ap, ◌∙◌}
use Rattle.std.specs.Result.{IsErrAnd}
use Rattle.gate.specs.Passes.{passes_out, spent_if}
use Rattle.gate.specs.declared.pass.Pass.{Pass}
use Rattle.gate_model.specs.States.{State}
use Rattle.gate_model.specs.Table.{Table}
use Rattle.gate_model.specs.declared.call.Call.TheVariants.{Admit, Leave}
use Rattle.gate_model.specs.declared.phase.Phase.{Phase}
use Rattle.recorder.specs.Answers.{leave_passed_on, with_spent}
use Rattle.recorder.specs.declared.recorder.HandedBack.{HandedBack}
use Rattle.recorder.specs.declared.refusal.Refusal.{Refusal}
use Rattle.recordday.specs.Day.{IsOut}
use Rattle.recordday.specs.declared.day.Refused.{Refused}
use Rattle.recorder.proofs.Kept.{kept_after}
use Rattle.recordday.proofs.day.end_visit.Goals as goal

-- a refused leave of a pass that is out hands that pass back
same_pass : (pass : Pass) (turned : Option Refusal) (out : Bool) (back : HandedBack) → out ≡ true → leave_passed_on pass turned (spent_if out pass) ≡ Err back → back.pass ≡ pass
same_pass pass None true back e f = cc
same_pass pass None false back e f = cc
same_pass pass (Some refusal) out back e f = cc

still_out : (out after : ℕ → ℕ → Bool) (result : Result Phase HandedBack) (pass : Pass) (back : HandedBack) → result ≡ Err back → back.pass ≡ pass → after ≡ with_spent pass result out → out pass.gate pass.arm ≡ true
    → after back.pass.gate back.pass.arm ≡ true
still_out out after (Ok phase) pass back r e f t = cc
still_out out after (Err other) pass back r e f t = ap (λ p. after p.gate p.arm) e ∙ ap (λ a. a pass.gate pass.arm) f ∙ t

out_if_some : {At : Type 0} (door : Table At) (s : State At) (held : Option Pass) (pass : Pass) → held ≡ Some pass → passes_out door s pass.gate pass.arm ≡ true → IsOut door s held
out_if_some door s None pass e t = cc
out_if_some door s (Some other) pass e t = (let same : other ≡ pass = cc in ap (λ p. passes_out door s p.gate p.arm) same ∙ t)

-- the refusal of the leave is passed on, with the pass
handed_on : {At : Type 0} (door : Table At) (s : State At) (result : Result Phase Refused) (back : HandedBack)
    → IsErrAnd result (λ refused. refused ≡ record { refusal = back.refusal; pass = Some back.pass }) → passes_out door s back.pass.gate back.pass.arm ≡ true
    → IfErr result (λ refused. IsOut door s refused.pass)
handed_on door s (Ok phase) back e t = tt
handed_on door s (Err refused) back e t = out_if_some door s refused.pass back.pass (ap (λ r. r.pass) e) t

pub returns-in_err-pass-clause-kept : goal.returns-in_err-pass-clause-kept
returns-in_err-pass-clause-kept g c = kept_after g.D.Door.table _ _ _ _ (Admit c.args.arm) c.admit.ensures.after c.admit.ensures.memory

pub returns-in_err-leave-clause-out : goal.returns-in_err-leave-clause-out
returns-in_err-leave-clause-out g c =
    let back = c.in_err-leave.field-0.0 in
    let out = c.in_ok-pass.ensures.out in
    let same = same_pass c.in_ok-pass.pass _ _ back out (sym c.leave.ensures.spent ∙ c.in_err-leave.was) in
    let still = still_out _ _ _ c.in_ok-pass.pass back c.in_err-leave.was same c.leave.ensures.passes out in
    handed_on g.D.Door.table _ _ back c.from_residual-in_err-leave.ensures.1 still

pub returns-in_err-leave-clause-kept : goal.returns-in_err-leave-clause-kept
returns-in_err-leave-clause-kept g c kept =
    kept_after g.D.Door.table _ _ _ _ (Leave c.in_ok-pass.pass.gate c.in_ok-pass.pass.arm) c.leave.ensures.after c.leave.ensures.memory (kept_after g.D.Door.table _ _ _ _ (Admit c.args.arm) c.admit.ensures.after c.admit.ensures.memory kept)

pub returns-clause-kept : goal.returns-clause-kept
returns-clause-kept g c kept =
    kept_after g.D.Door.table _ _ _ _ (Leave c.in_ok-pass.pass.gate c.in_ok-pass.pass.arm) c.leave.ensures.after c.leave.ensures.memory (kept_after g.D.Door.table _ _ _ _ (Admit c.args.arm) c.admit.ensures.after c.admit.ensures.memory kept)
