-- What a turn does to the plant, and a day of turns.
use Rattle.std.specs.Prelude.{ℕ, zero, suc, ◌+◌, ◌-◌, if◌then◌else◌, ◌==◌, nat_lt}
use Rattle.gate_model.specs.Calls.{arm_after, after}
use Rattle.gate_model.specs.States.{State, arm_at, phase_at}
use Rattle.gate_model.specs.Table.{Table}
use Rattle.gate_model.specs.declared.call.Call.TheVariants.{Begin as begin, Step as step, Admit as admit, Leave as leave}
use Rattle.gate_model.specs.declared.phase.Phase.{Phase}
use Rattle.gate_model.specs.declared.phase.Phase.TheVariants as P
use Rattle.plantday.specs.Dice.{rolled, face}
use Rattle.plantday.specs.Records.{plant_arms, with_move, with_leave, noted}
use Rattle.plantday.specs.declared.record.Record.{Record}

-- what the dice hold at first, and how many turns a day has
abbrev pub seed : ℕ
seed = 20261117

abbrev pub day_turns : ℕ
day_turns = 200000

-- the dice after so many rolls, and what the last of them shows
abbrev pub rolls : ℕ → ℕ → ℕ
rolls zero dice = dice
rolls (suc k) dice = rolled (rolls k dice)

abbrev pub roll_shown : ℕ → ℕ → ℕ → ℕ
roll_shown k sides dice = face (rolls k dice) sides

-- whose turn it is by the dice, k of arm k + 1: seven turns of ten go to arms 1 and 2, nearly all others to arms 1 to 5, and few to arm 6;
-- and the dice after that
abbrev pub picked : ℕ → ℕ
picked dice =
    if nat_lt (roll_shown 1 10 dice) 7 then roll_shown 2 2 dice else (if nat_lt (roll_shown 2 20 dice) 19 then roll_shown 3 (plant_arms - 1) dice else plant_arms - 1)

abbrev pub dice_after_pick : ℕ → ℕ
dice_after_pick dice = if nat_lt (roll_shown 1 10 dice) 7 then rolls 2 dice else (if nat_lt (roll_shown 2 20 dice) 19 then rolls 3 dice else rolls 2 dice)

-- the plant: its gate, what the dice hold, and what is noted of the arms
pub record Plant (At : Type 0) : Type 0 where
  pub gate : State At
  pub dice : ℕ
  pub notes : Record

abbrev pub plant : {At : Type 0} → State At → ℕ → Record → Plant At
plant gate dice notes = record { gate = gate; dice = dice; notes = notes }

module _ {At : Type 0} (door : Table At) where
  -- arm k + 1, idle, begins with a chance of one in three
  abbrev pub begun_by_chance : ℕ → Plant At → Plant At
  begun_by_chance k p = record p { gate = if roll_shown 1 3 p.dice == 0 then after door p.gate (begin (k + 1)) else p.gate; dice = rolls 1 p.dice }

  -- arm k + 1, inside, is admitted and leaves
  abbrev pub let_go : State At → ℕ → State At
  let_go s k = after door (after door s (admit (k + 1))) (leave s.number (k + 1))

  -- arm k + 1, inside, is admitted and leaves, and its reading is delivered
  abbrev pub plant_visited : ℕ → Plant At → Plant At
  plant_visited k p = let s : State At = let_go p.gate k in record p { gate = s; notes = with_leave door s k p.notes }

  -- the phase to which a step takes arm k + 1
  abbrev pub phase_ahead : State At → ℕ → Phase
  phase_ahead s k = door.phase (arm_after door s (k + 1)).position

  -- arm k + 1, in this phase, steps: the phases before and after are noted, and that it moved
  abbrev pub plant_stepped : ℕ → Phase → Plant At → Plant At
  plant_stepped k from p = let s : State At = after door p.gate (step (k + 1)) in record p { gate = s; notes = with_move door s k (noted door s k from (phase_ahead p.gate k) p.notes) }

  -- a turn of arm k + 1, in this phase: it does what the phase asks for; inside with its pass out it does nothing
  abbrev pub turned_in : Phase → ℕ → Plant At → Plant At
  turned_in P.I k p = begun_by_chance k p
  turned_in P.F k p = if (arm_at door p.gate (k + 1)).out then p else plant_visited k p
  turned_in from k p = plant_stepped k from p

  abbrev pub turned : ℕ → Plant At → Plant At
  turned k p = turned_in (phase_at door p.gate (k + 1)) k p

  -- a turn of the arm that the dice pick
  abbrev pub next_turn : Plant At → Plant At
  next_turn p = turned (picked p.dice) (record p { dice = dice_after_pick p.dice })

  -- the first turns of a day
  unfoldable pub turns_of : ℕ → Plant At → Plant At
  turns_of zero p = p
  turns_of (suc t) p = next_turn (turns_of t p)

  -- the plant after a whole day, and what is noted of it, the turns of the bit too
  abbrev pub day_of : State At → Record → Plant At
  day_of s notes = turns_of day_turns (plant s seed notes)

  abbrev pub notes_of_day : State At → Record → Record
  notes_of_day s notes = record (day_of s notes).notes { turns = (day_of s notes).gate.turns }
