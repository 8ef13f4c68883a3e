use Rattle.std.proofs.Common.{ℕ, ◌+◌, ◌&&◌, eqb, ap, ◌∙◌, arith, rules, tests}
use Rattle.std.proofs.lemmas.Iterator.{YieldsList-from_range}
use Rattle.std.proofs.lemmas.Iterator.Search.{all_from_yields_List}
use Rattle.std.specs.List.{list_all, range_with_len}
use Rattle.gate_model.specs.States.{is_arm, arm_at}
use Rattle.recorder.proofs.Fit.{all_arms}
use Rattle.recorder.proofs.starting.are_unbegun.Goals as goal

pub returns : goal.returns
returns g c =
    let s = c.args.gate.now in
    let n = c.arm_count-n.result in
    let unbegun = λ (i : ℕ). eqb (arm_at g.D.Door.table s i).visits 0 in
    all_from_yields_List (λ i. is_arm s i && unbegun i) _ _ c.all.result c.all.ensures.ran (YieldsList-from_range 1 (n + 1) n (cc) (omega arith)) (λ x b q k. search (rules, tests))
    ∙ (all_arms s unbegun 1 n (omega arith) (omega (arith, c.arm_count-n.ensures.arms)) ∙ ap (λ k. list_all unbegun (range_with_len 1 k)) c.arm_count-n.ensures.arms)
