use Rattle.std.proofs.Common.{ap, ◌∙◌}
use Rattle.accesses.proofs.Turns.{turned_n, run_on}
use Rattle.accesses.proofs.runs.lively.Goals as goal

pub loop-t-preserved : goal.loop-t-preserved
loop-t-preserved g c =
    let door = g.D.Door.table in
    let turned = c.watch.ensures ∙ c.turn.ensures in
    let before = c.loop-t.invariant in
    record {
      ran = run_on door c.loop-t.t c.arm_count-n.result _ _ _ _ before.ran c.arm_count-n.ensures.arms c.arm_of_turn-arm.ensures.arm turned;
      arms = ap (λ s. s.n) turned ∙ turned_n door c.loop-t.gate.gate c.arm_of_turn-arm.result ∙ before.arms;
    }
