use Rattle.std.proofs.Common.{ap, ◌∙◌}
use Rattle.three_bits.specs.Positions.{three_bits}
use Rattle.accesses.proofs.Turns.{turned_n, turned_number, run_on}
use Rattle.accesses.proofs.runs.refused.Goals as goal

pub loop-t-preserved : goal.loop-t-preserved
loop-t-preserved g c =
    let door = g.D.Door.table in
    let turned = c.turn_after_refusals.ensures in
    let before = c.loop-t.invariant in
    let gate = c.loop-t.gate.gate in
    let other = c.loop-t.other in
    record {
      ran = run_on door c.loop-t.t c.arm_count-n.result _ _ _ _ before.ran c.arm_count-n.ensures.arms c.arm_of_turn-arm.ensures.arm turned.gate;
      arms = ap (λ s. s.n) turned.gate ∙ turned_n door gate c.arm_of_turn-arm.result ∙ before.arms;
      number = ap (λ s. s.number) turned.gate ∙ turned_number door gate c.arm_of_turn-arm.result ∙ before.number;
      others = ap (λ s. s.n) turned.other ∙ turned_n three_bits other 1 ∙ before.others;
      other_number = ap (λ s. s.number) turned.other ∙ turned_number three_bits other 1 ∙ before.other_number;
    }
