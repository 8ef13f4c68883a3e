use Rattle.std.proofs.Common.{None, Ok, ap, ◌∙◌, ◌≡◌, refl, arith, rules}
use Rattle.std.proofs.lemmas.Grind.{common_steps}
use Rattle.gate.specs.Passes.{passes_out, with_given}
use Rattle.gate_model.specs.declared.call.Call.TheVariants.{Admit}
use Rattle.recorder.specs.Recorders.{handed}
use Rattle.recorder.proofs.InHand.{one_call_more}
use Rattle.recorder.proofs.Written.{goes_by, after_went}
use Rattle.recorder.proofs.recorder.Recorder.admit.Goals as goal

pub returns-clause-after : goal.returns-clause-after
returns-clause-after g c =
    let h = handed (Admit c.args.arm) c.args._file.now in
    after_went g.D.Door.table c.args.self.now _ h None (goes_by c.args.self.now (Admit c.args.arm) c.args._file.now c.may_call.result (grind (arith, common_steps)) (search rules) refl) (grind arith) (grind (arith, common_steps))

pub returns-clause-memory : goal.returns-clause-memory
returns-clause-memory g c = grind arith

pub returns-clause-passes : goal.returns-clause-passes
returns-clause-passes g c =
    let is : c.admit.result ≡ Ok c.in_ok-pass.pass = search rules in
    rw (← c.self.view_is) (c.admit.ensures.passes ∙ ap (λ answer. with_given answer (passes_out g.D.Door.table c.self.inside.gate)) is)

pub invariant_of-self-2 : goal.invariant_of-self-2
invariant_of-self-2 g c = one_call_more g.D.Door.table c.args.self.now _ (handed (Admit c.args.arm) c.args._file.now) (search rules) (returns-clause-after g c)
