-- What moves do to a dispatcher, and how their costs are counted.
use Rattle.std.specs.Prelude.{◌≡◌, ℕ, Bool, if◌then◌else◌, List, length, ◌==◌}
use Rattle.gate_model.specs.Table.{Table}
use Rattle.dispatcher.specs.Dispatchers.{Dispatch}
use Rattle.dispatcher.specs.Law.{after_moves}
use Rattle.accesses.specs.Costs.{with_call}
use Rattle.accesses.specs.declared.counting_bank.Count.{Count}
use Rattle.accesses.specs.declared.moves.MoveBook.{MoveBook}

-- so many moves, whatever each was asked for, lead a dispatcher from d to e
abbrev pub MovesMade : {At : Type 0} → Table At → ℕ → Dispatch At → Dispatch At → Type 0
MovesMade door k d e = (rings : List (List ℕ)) × (length rings ≡ k) × (e ≡ after_moves door d rings)

-- the costs with one more move, of an arm that was inside before it or not; of arm 0 where all were idle
abbrev pub with_move : ℕ → Bool → Count → MoveBook → MoveBook
with_move arm was_inside count b =
    if arm == 0 then record b { idle = with_call count b.idle } else (if was_inside then record b { let_go = with_call count b.let_go } else record b { step = with_call count b.step })
