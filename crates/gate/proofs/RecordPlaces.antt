-- Where an arm's record lies in the table, and that a pass whose mark stands there is known.
use Rattle.std.proofs.Common.{◌≡◌, ℕ, ◌-◌, ◌*◌, ◌^◌, ◌<◌, ◌≤◌, true, IsTrue, List, [], length, set, Fits, w64, arith}
use Rattle.std.proofs.lemmas.Bool.Decides.{nat_tests}
use Rattle.std.proofs.lemmas.List.{get_or-set_same}
use borrow.Author.Rules.{scaled_Fits}
use Rattle.bank.specs.Lent.{unlogged}
use Rattle.gate_model.specs.Calls.{knows}
use Rattle.gate_model.specs.Limits.{arm_limit}
use Rattle.gate_model.specs.Table.{Table}
use Rattle.gate_model.specs.declared.arm.Arm.{Arm}

pub place_fits : (i size : ℕ) → i < arm_limit → arm_limit * size < 2 ^ 63 → Fits w64 (i * size)
place_fits i size = scaled_Fits i arm_limit size

-- whatever the bank holds, a pass is known once the mark stands in its arm's record
pub marked_known : {At : Type 0} (door : Table At) (number n i : ℕ) (arms : List (Arm At)) (a : Arm At) → a.out ≡ true → 1 ≤ i → i ≤ n → n ≤ length arms
    → IsTrue (knows door (record { memory = unlogged 0; high = 0; number = number; n = n; regs = []; arms = set arms (i - 1) a; turns = 0 }) number i)
marked_known door number n i arms a out low high long = grind (arith, nat_tests, get_or-set_same)
