use Rattle.std.proofs.lemmas.Bool.Decides.{nat_tests}
use Rattle.std.proofs.Common.{arith}
use Rattle.plantday.proofs.note.Goals as goal

pub returns-in-W-F : goal.returns-in-W-F
returns-in-W-F g c =
    let told = c.most_passed.ensures in
    let most = c.unwrap.ensures in
    grind (arith, nat_tests)

pub unwrap-requires : goal.unwrap-requires
unwrap-requires g c = let arms = c.requires.arms in let k = c.requires.arm in grind (arith, nat_tests)
