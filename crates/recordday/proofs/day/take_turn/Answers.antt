use Rattle.gate_model.specs.declared.call.Call.TheVariants.{Begin, Step}
use Rattle.recorder.proofs.Kept.{kept_after}
use Rattle.recordday.proofs.day.take_turn.Goals as goal

pub returns-in_err-begin-in-Ok-I-clause-kept : goal.returns-in_err-begin-in-Ok-I-clause-kept
returns-in_err-begin-in-Ok-I-clause-kept g c = kept_after g.D.Door.table _ _ _ _ (Begin c.args.arm) c.begin.ensures.after c.begin.ensures.memory

pub returns-in_err-step-in_default-clause-kept : goal.returns-in_err-step-in_default-clause-kept
returns-in_err-step-in_default-clause-kept g c = kept_after g.D.Door.table _ _ _ _ (Step c.args.arm) c.step.ensures.after c.step.ensures.memory

pub returns-in_ok-begin-in-Ok-I-clause-kept : goal.returns-in_ok-begin-in-Ok-I-clause-kept
returns-in_ok-begin-in-Ok-I-clause-kept g c = kept_after g.D.Door.table _ _ _ _ (Begin c.args.arm) c.begin.ensures.after c.begin.ensures.memory

pub returns-in_ok-step-in_default-clause-kept : goal.returns-in_ok-step-in_default-clause-kept
returns-in_ok-step-in_default-clause-kept g c = kept_after g.D.Door.table _ _ _ _ (Step c.args.arm) c.step.ensures.after c.step.ensures.memory
