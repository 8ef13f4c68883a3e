use Rattle.std.proofs.Common.{◌≡◌, ℕ, ◌+◌, false, cond, eqb, [], ◌∷◌, sym, ap, ◌∙◌, arith}
use Rattle.std.proofs.lemmas.Bool.Decides.{nat_tests}
use Rattle.gate_model.specs.declared.call.Call.TheVariants.{Begin, Step}
use Rattle.plantday.specs.Records.{with_leave}
use Rattle.plantday.specs.Turns.{plant, plant_visited, turned_in}
use Rattle.plantday.proofs.TurnByPhase.{look_arm, arm_steps}
use Rattle.plantday.proofs.turn.Goals as goal

no_zero : (n : ℕ) → (n ≡ 0 → ⊥) → eqb n 0 ≡ false
no_zero n h = grind (arith, nat_tests)

pub returns-then-roll-eq0-clause-calls : goal.returns-then-roll-eq0-clause-calls
returns-then-roll-eq0-clause-calls g c = (Begin (c.args.k + 1) ∷ [], c.begin.ensures.after)

pub returns-then-roll-eq0-clause-turn : goal.returns-then-roll-eq0-clause-turn
returns-then-roll-eq0-clause-turn g c =
    let saw = look_arm g.D.Door.table c.args.gate.now (c.args.k + 1) c.unwrap-view.result (sym c.look.ensures.answer ∙ c.unwrap-view.ensures) in
    rw (saw.0 ∙ c.in-I.is, c.begin.ensures.after, c.roll.ensures.state, ap (λ n. eqb n 0) (sym c.roll.ensures.shown ∙ c.if-roll-eq0.true))

pub returns-else-roll-eq0-clause-turn : goal.returns-else-roll-eq0-clause-turn
returns-else-roll-eq0-clause-turn g c =
    let saw = look_arm g.D.Door.table c.args.gate.now (c.args.k + 1) c.unwrap-view.result (sym c.look.ensures.answer ∙ c.unwrap-view.ensures) in
    rw (saw.0 ∙ c.in-I.is, c.roll.ensures.state, ap (λ n. eqb n 0) (sym c.roll.ensures.shown) ∙ no_zero c.roll.result c.if-roll-eq0.false)

pub returns-in-F-clause-turn : goal.returns-in-F-clause-turn
returns-in-F-clause-turn g c =
    let saw = look_arm g.D.Door.table c.args.gate.now (c.args.k + 1) c.unwrap-view.result (sym c.look.ensures.answer ∙ c.unwrap-view.ensures) in
    rw (saw.0 ∙ c.in-F.is, saw.1 ∙ c.if-view.true)

pub returns-in-F-2-clause-turn : goal.returns-in-F-2-clause-turn
returns-in-F-2-clause-turn g c =
    let door = g.D.Door.table in
    let k = c.args.k in
    let before = plant c.args.gate.now c.args.dice.now.state c.args.record.now in
    let saw = look_arm door c.args.gate.now (k + 1) c.unwrap-view.result (sym c.look.ensures.answer ∙ c.unwrap-view.ensures) in
    ap (plant c.deliver.new.gate before.dice) c.deliver.ensures.noted
    ∙ ap (λ s. plant s before.dice (with_leave door s k before.notes)) c.deliver.ensures.gate
    ∙ sym (ap (λ phase. turned_in door phase k before) (saw.0 ∙ c.in-F.is) ∙ ap (λ out. cond out before (plant_visited door k before)) (saw.1 ∙ c.if-view.false))

pub returns-in-D-clause-calls : goal.returns-in-D-clause-calls
returns-in-D-clause-calls g c = (Step (c.args.k + 1) ∷ [], c.step.ensures.after)

pub returns-in-D-clause-turn : goal.returns-in-D-clause-turn
returns-in-D-clause-turn g c =
    let door = g.D.Door.table in
    let saw = look_arm door c.args.gate.now (c.args.k + 1) c.unwrap-view.result (sym c.look.ensures.answer ∙ c.unwrap-view.ensures) in
    arm_steps door c.args.k c.args.dice.now.state c.args.gate.now c.step.new.self c.args.record.now c.unwrap-view.result.phase c.unwrap-after.result c.note.new.record c.moved.new.self c.in-D.is
    saw.0 (sym c.step.ensures.answer ∙ c.unwrap-after.ensures) c.step.ensures.after c.note.ensures c.moved.ensures
