use Rattle.recordday.proofs.day.record_day.Goals as goal

pub loop-turn-init : goal.loop-turn-init
loop-turn-init g c = c.requires

pub returns-in-Err-clause-kept : goal.returns-in-Err-clause-kept
returns-in-Err-clause-kept g c = c.take_turn.ensures.kept c.loop-turn.invariant

pub loop-turn-preserved : goal.loop-turn-preserved
loop-turn-preserved g c = c.take_turn.ensures.kept c.loop-turn.invariant

pub returns-clause-kept : goal.returns-clause-kept
returns-clause-kept g c = c.loop-turn.invariant
