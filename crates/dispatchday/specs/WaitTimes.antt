-- How long arms wait, in moves.
use Rattle.std.specs.Prelude.{ℕ, ◌+◌, ◌-◌, ◌*◌, max, Some, None, Option, replicate, slice_index_or, slice_set}
use Rattle.gate_model.specs.Limits.{arm_limit}
use Rattle.gate_model.specs.Table.{Table}
use Rattle.gate_model.specs.declared.phase.Phase.{Phase}
use Rattle.gate_model.specs.declared.phase.Phase.TheVariants as P
use Rattle.dispatchday.specs.Plant.{plant_arms}
use Rattle.dispatchday.specs.declared.wait_times.WaitTimes.{WaitTimes}

-- no arm waits, and none has waited; there is a place for each arm that a gate can have, by its number
abbrev pub no_waits : WaitTimes
no_waits = record { since = replicate (arm_limit + 1) None; longest = 0 }

-- the move with which the present wait of an arm began; none where it does not wait
abbrev pub since : WaitTimes → ℕ → Option ℕ
since w arm = slice_index_or w.since arm None

-- an arm is seen after the move of a time: in W its wait begins then, unless it has begun; in F a wait that has begun ends
abbrev pub with_look : ℕ → ℕ → Option Phase → Option ℕ → WaitTimes → WaitTimes
with_look arm time (Some P.W) None w = record w { since = slice_set w.since arm (Some time) }
with_look arm time (Some P.F) (Some began) w = record w { since = slice_set w.since arm None; longest = max w.longest (time - began) }
with_look arm time seen began w = w

abbrev pub noted : ℕ → ℕ → Option Phase → WaitTimes → WaitTimes
noted arm time seen w = with_look arm time seen (since w arm) w

-- within so many moves an arm of the plant that waits is seen inside: the law of moves, by the rounds that the door names
abbrev pub promised : {At : Type 0} → Table At → ℕ
promised door = plant_arms * door.rounds plant_arms
