use Rattle.std.proofs.Common.{◌+◌, ◌-◌, sym, ap, ◌∙◌, arith, rules, tests}
use Rattle.std.proofs.lemmas.Iterator.{YieldsList-from_range}
use Rattle.std.proofs.lemmas.Iterator.Adapters.{option_map_id}
use Rattle.std.proofs.lemmas.Iterator.Consumers.{YieldsList-from_chain}
use Rattle.std.proofs.lemmas.Iterator.Search.{find_from_yields_List}
use Rattle.std.specs.List.{find}
use Rattle.dispatcher.specs.Moves.{is_busy, in_turn}
use Rattle.dispatcher.proofs.moves.first_busy.Goals as goal

pub returns : goal.returns
returns g c =
    let gate = c.args.gate.now in
    let last = c.args.last in
    let n = c.arm_count-n.result in
    let busy = is_busy g.D.Door.table gate in
    sym (option_map_id c.find.result)
    ∙ find_from_yields_List busy _ _ c.find.result c.find.ensures.ran
    (YieldsList-from_chain (YieldsList-from_range (last + 1) (n + 1) (n - last) (cc) (omega arith)) (YieldsList-from_range 1 (last + 1) last (cc) (omega arith)) (cc) (cc))
    (λ x b q k. search (rules, tests))
    ∙ ap (λ m. find busy (in_turn m last)) c.arm_count-n.ensures.arms
