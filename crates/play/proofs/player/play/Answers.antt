use Rattle.play.proofs.OtherBank.{same_elsewhere}
use Rattle.play.proofs.player.play.Goals as goal

pub returns-clause-elsewhere : goal.returns-clause-elsewhere
returns-clause-elsewhere g c =
    let met = g.met.D.Door in
    let played = c.perform.ensures in
    same_elsewhere g.D.Door.table met.accesses met.some_room _ _ _ _ _ _ _ played.answer played.report
