-- What an arm takes at most once a visit and only while inside, such as a lock among the arms inside: how often, as a list of events tells it.
use Rattle.std.specs.Prelude.{ℕ, ◌+◌, ◌≤◌, Bool, false, if◌then◌else◌, not, ◌&&◌, ◌||◌, T, List, [], ◌∷◌, ◌==◌}
use Rattle.gate_model.specs.Making.{Making}
use Rattle.gate_model.specs.Table.{Table}
use Rattle.gate_model.specs.States.{State, made, is_arm}
use Rattle.gate_model.specs.Calls.{after, run}
use Rattle.gate_model.specs.History.{is_in, IsPastDoorway, ends_doorway, goes_inside, idle_then}
use Rattle.gate_model.specs.declared.call.Call.{Call}
use Rattle.gate_model.specs.declared.phase.Phase.TheVariants as P

-- an event: a call on the gate, or arm i takes
pub data Event : Type 0 where
  called : Call → Event
  takes : ℕ → Event

-- the calls among the events
abbrev pub calls_of : List Event → List Call
calls_of [] = []
calls_of (called c ∷ es) = c ∷ calls_of es
calls_of (takes i ∷ es) = calls_of es

module _ {At : Type 0} (door : Table At) where
  -- how often b has taken since w last ended its doorway; k is the count before the list
  abbrev pub takes_on : ℕ → ℕ → State At → List Event → ℕ → ℕ
  takes_on w b s [] k = k
  takes_on w b s (called c ∷ es) k = takes_on w b (after door s c) es (if ends_doorway door w s c then 0 else k)
  takes_on w b s (takes i ∷ es) k = takes_on w b s es (if i == b then k + 1 else k)

  -- b takes only while inside, and at most once a visit; may: before the list it has gone inside and not taken since
  abbrev pub TakesOnce : ℕ → State At → List Event → Bool → Type 0
  TakesOnce b s [] may = Unit {0}
  TakesOnce b s (called c ∷ es) may = TakesOnce b (after door s c) es (goes_inside door b s c || may)
  TakesOnce b s (takes i ∷ es) may = (T (i == b) → T (may && is_in door P.F s b)) × TakesOnce b s es (may && not (i == b))

  -- since an arm in W, F or X ended its doorway, an arm that takes at most once a visit has taken at most twice, and at most once if it was idle then
  abbrev pub TakenAtMostTwice : State At → List Event → State At → Type 0
  TakenAtMostTwice start events s = (w b : ℕ) → IsPastDoorway door s w → T (is_arm s b) → TakesOnce b start events false →
      (takes_on w b start events 0 ≤ 2) × (T (idle_then door w b start (calls_of events)) → takes_on w b start events 0 ≤ 1)

-- this of every making and every list of events: follows from Phased and the rules alone
abbrev pub TakingBound : {At : Type 0} → Table At → Type 0
TakingBound {At} door = (making : Making) (events : List Event) →
    let start : State At = made door making in
    TakenAtMostTwice door start events (run door start (calls_of events))
