use Rattle.std.proofs.Common.{◌≡◌, get_or, sym, ap, ◌∙◌, subst}
use Rattle.std.proofs.lemmas.List.{take_all}
use Rattle.gate_model.specs.Calls.{run, after}
use Rattle.gate_model.specs.Law.{Fair}
use Rattle.gate_model.specs.Making.{Making}
use Rattle.gate_model.specs.States.{made}
use Rattle.gate_model.specs.Turns.{TurnsTold}
use Rattle.gate_model.specs.declared.call.Call.TheVariants.{Begin}
use Rattle.gate_model.proofs.Origins.{run_more}
use Rattle.gate_model.proofs.Unaltered.{memory_name}
use Rattle.overtaking.proofs.Bound.{passing}
use Rattle.overtaking.proofs.Fairness.{fair}
use Rattle.overtaking.proofs.Turns.{turns_told}
use Rattle.gate.proofs.carrying.carry_out.Goals as goal

pub loop-call-preserved : goal.loop-call-preserved
loop-call-preserved g c =
    let door = g.D.Door.table in
    let first = c.make-gate.result in
    let call = get_or c.args.calls.now c.loop-call.call-index (Begin 0) in
    c.carry.ensures
    ∙ (ap (λ s. after door s call) c.loop-call.invariant ∙ sym (run_more door first c.args.calls.now c.loop-call.call-index (Begin 0) c.loop-call-test.true))

pub returns : goal.returns
returns g c =
    let bank = g.B.Bank in
    let door = g.D.Door.table in
    let met = g.met.D.Door in
    let making : Making = record { memory = bank.memory c.args.bank; high = bank.HIGHEST; number = c.args.number; wanted = c.args.wanted; regs = bank.values c.args.bank } in
    let start = made door making in
    let e : c.loop-call.gate ≡ run door start c.args.calls.now =
    c.loop-call.invariant ∙ (ap (run door _) (take_all c.loop-call.call-index c.args.calls.now c.loop-call-test.false) ∙ ap (λ s. run door s c.args.calls.now) c.make-gate.ensures.made) in
    record {
      state = e;
      lent = ap (λ s. s.memory.name) e ∙ memory_name door making c.args.calls.now;
      law = subst (Fair door start c.args.calls.now) (sym e) (fair door met.phased met.rules met.way met.reads making c.args.calls.now);
      rules = met.rules;
      bound = passing met.phased met.rules;
      turns = subst (TurnsTold door start c.args.calls.now) (sym e) (turns_told door met.phased met.rules met.bits making c.args.calls.now);
    }
