-- What a day does, and what full rings lose.
use Rattle.std.specs.Prelude.{◌≡◌, ℕ, zero, suc, ◌+◌, ◌-◌, ◌^◌, min, Bool, true, false, if◌then◌else◌, List, length, Some, None, Option}
use Rattle.gate_model.specs.States.{State, is_arm, phase_at}
use Rattle.gate_model.specs.Table.{Table}
use Rattle.gate_model.specs.declared.phase.Phase.{Phase}
use Rattle.gate_model.specs.declared.phase.Phase.TheVariants as P
use Rattle.dispatcher.specs.Dispatchers.{Dispatch}
use Rattle.dispatcher.specs.Law.{after_moves}
use Rattle.dispatcher.specs.Moves.{ring_after, served, moved}
use Rattle.dispatcher.specs.declared.reading.Reading.{Reading}
use Rattle.ring.specs.Rings.{Held, items, put_in}
use Rattle.ring.specs.Spans.{has_room}
use Rattle.dispatchday.specs.Plant.{asked_at, reading_at}
use Rattle.dispatchday.specs.WaitTimes.{noted}
use Rattle.dispatchday.specs.declared.plant.Lost.{Lost}
use Rattle.dispatchday.specs.declared.wait_times.WaitTimes.{WaitTimes}

-- how many moves a day has
abbrev pub day_moves : ℕ
day_moves = 700

-- so many moves, whatever each was asked for, lead a dispatcher from d to e
abbrev pub MovesMade : {At : Type 0} → Table At → ℕ → Dispatch At → Dispatch At → Type 0
MovesMade door k d e = (rings : List (List ℕ)) × (length rings ≡ k) × (e ≡ after_moves door d rings)

-- the count of lost items once one more is put into a ring: a full ring loses it, and the count stops at its highest value
abbrev pub lost_after : {X : Type 0} → Held X → ℕ → ℕ
lost_after ring lost = if has_room ring.span ring.slots then lost else min (lost + 1) (2 ^ 32 - 1)

abbrev pub nothing_lost : Lost
nothing_lost = record { arms = 0; readings = 0 }

-- whether an arm that is seen in a phase, or in none, is inside
abbrev pub seen_inside : Option Phase → Bool
seen_inside (Some P.F) = true
seen_inside seen = false

-- a host: its dispatcher, the ring of the arms that are asked for, that of the readings, what the two lost so far, and how long arms waited
pub record Host (At : Type 0) : Type 0 where
  pub dispatcher : Dispatch At
  pub asked : Held ℕ
  pub readings : Held Reading
  pub lost : Lost
  pub waits : WaitTimes

module _ {At : Type 0} where
  abbrev pub host : Dispatch At → Held ℕ → Held Reading → Lost → WaitTimes → Host At
  host dispatcher asked readings lost waits = record { dispatcher = dispatcher; asked = asked; readings = readings; lost = lost; waits = waits }

  -- an arm that asks is put into its ring
  abbrev pub with_ask : Option ℕ → Host At → Host At
  with_ask None h = h
  with_ask (Some i) h = record h { asked = put_in i h.asked; lost = record h.lost { arms = lost_after h.asked h.lost.arms } }

  -- a reading is put into its ring
  abbrev pub with_reading : Reading → Host At → Host At
  with_reading x h = record h { readings = put_in x h.readings; lost = record h.lost { readings = lost_after h.readings h.lost.readings } }

  -- where an arm is seen inside, its reading is delivered
  abbrev pub delivered : Option Phase → ℕ → ℕ → Host At → Host At
  delivered seen arm time h = if seen_inside seen then with_reading (reading_at arm time) h else h

  -- the arm that was served is seen in this phase: its wait may begin or end, and its reading be delivered
  abbrev pub looked : Option Phase → ℕ → ℕ → Host At → Host At
  looked seen arm time h = delivered seen arm time (record h { waits = noted arm time seen h.waits })

module _ {At : Type 0} (door : Table At) where
  -- the host after a move; and which arm the move serves
  abbrev pub after_move : Host At → Host At
  after_move h = record h { dispatcher = moved door h.dispatcher (items h.asked); asked = ring_after door h.dispatcher.gate h.asked }

  abbrev pub arm_served : Host At → ℕ
  arm_served h = served door h.dispatcher (items h.asked)

  -- the phase of an arm; none where the gate has no such arm
  abbrev pub phase_seen : State At → ℕ → Option Phase
  phase_seen s i = if is_arm s i then Some (phase_at door s i) else None

  -- a turn: the arm that asks is put into the ring, a move is made, and the arm that was served is looked at
  abbrev pub turned : ℕ → Host At → Host At
  turned time h =
      let asked : Host At = with_ask (asked_at time) h in
      let after : Host At = after_move asked in
      looked (phase_seen after.dispatcher.gate (arm_served asked)) (arm_served asked) time after

  -- the first turns of a day
  unfoldable pub day_of : ℕ → Host At → Host At
  day_of zero h = h
  day_of (suc time) h = turned time (day_of time h)
