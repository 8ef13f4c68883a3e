use Rattle.std.proofs.Common.{◌+◌, [], ◌∷◌, ap, ◌∙◌, arith}
use Rattle.gate_model.specs.declared.call.Call.TheVariants.{Admit, Leave}
use Rattle.gate_model.specs.Calls.{after}
use Rattle.plantday.specs.Records.{with_move}
use Rattle.plantday.proofs.deliver.Goals as goal
use Rattle.plantday.proofs.deliver.Goals.{then-known, else-known}

-- the arm is admitted and leaves
pub returns-clause-calls : goal.returns-clause-calls
returns-clause-calls g c =
    let leave = Leave c.confirm-known.result.0.gate c.confirm-known.result.0.arm in
    (Admit (c.args.k + 1) ∷ leave ∷ [], c.leave.ensures.after ∙ ap (λ s. after g.D.Door.table s leave) c.admit.ensures.after)

-- its reading is delivered, since the gate knows the pass that it just gave
pub returns-clause-noted : goal.returns-clause-noted
returns-clause-noted g c =
    elim c.if-known.branch [
      | then-known w ↦ c.moved.ensures ∙ ap (with_move g.D.Door.table c.leave.new.self c.args.k) (w.record-is ∙ w.deliver.ensures)
      | else-known w ↦ let given = c.admit.ensures.known in
          let pass = c.unwrap-pass.ensures in
          let same = c.confirm-known.ensures.same in
          let known = c.confirm-known.ensures.answer in
          let missed = w.if-known.false in
          grind arith
    ]
