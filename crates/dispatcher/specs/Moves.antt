-- What a dispatcher does in one move, by the calls of its gate.
use Rattle.std.specs.Prelude.{ℕ, ◌+◌, ◌-◌, Bool, true, false, if◌then◌else◌, not, ◌&&◌, List, [], ◌∷◌, ◌++◌, drop, Some, None, Ok, Err, Option, Result}
use Rattle.std.specs.List.{find, range_with_len}
use Rattle.gate_model.specs.Calls.{refusal_of, answered, run}
use Rattle.gate_model.specs.History.{is_in}
use Rattle.gate_model.specs.States.{State, is_arm}
use Rattle.gate_model.specs.Table.{Table}
use Rattle.gate_model.specs.declared.call.Call.{Call}
use Rattle.gate_model.specs.declared.call.Call.TheVariants.{Begin as begin, Step as step, Admit as admit, Leave as leave}
use Rattle.gate_model.specs.declared.phase.Phase.{Phase}
use Rattle.gate_model.specs.declared.phase.Phase.TheVariants as P
use Rattle.gate_model.specs.declared.refusal.Refusal.{Refusal}
use Rattle.gate_model.specs.declared.refusal.Refusal.TheVariants as R
use Rattle.ring.specs.Rings.{Held, items, taken}
use Rattle.dispatcher.specs.Dispatchers.{Dispatch}

-- the call that a move makes first: it begins the arm at the head of the ring
abbrev pub opening : List ℕ → List Call
opening [] = []
opening (i ∷ more) = begin i ∷ []

-- whether the head is taken off, by what begin answers: it is begun, or refused with 1 or 5
abbrev pub goes_off : Result Phase Refusal → Bool
goes_off (Ok p) = true
goes_off (Err R.NoArm) = true
goes_off (Err R.Worn) = true
goes_off (Err r) = false

-- the arms 1 to n in cyclic order after the one served last
abbrev pub in_turn : ℕ → ℕ → List ℕ
in_turn n last = range_with_len (last + 1) (n - last) ++ range_with_len 1 last

-- the number of an arm that is served, 0 for none; and which arm is then the one served last
abbrev pub number_or_0 : Option ℕ → ℕ
number_or_0 None = 0
number_or_0 (Some i) = i

abbrev pub last_after : ℕ → Option ℕ → ℕ
last_after last None = last
last_after last (Some i) = i

module _ {At : Type 0} (door : Table At) where
  -- whether the head of the ring is taken off; then the arms in the ring, and the ring itself, after that
  abbrev pub head_goes : State At → List ℕ → Bool
  head_goes s [] = false
  head_goes s (i ∷ more) = goes_off (answered (refusal_of door s (begin i)) P.D)

  abbrev pub items_after : State At → List ℕ → List ℕ
  items_after s asked = if head_goes s asked then drop 1 asked else asked

  abbrev pub ring_after : State At → Held ℕ → Held ℕ
  ring_after s r = if head_goes s (items r) then taken r else r

  -- whether arm i is one of the gate's and not idle; whether it is inside
  abbrev pub is_busy : State At → ℕ → Bool
  is_busy s i = is_arm s i && not (is_in door P.I s i)

  abbrev pub is_inside : State At → ℕ → Bool
  is_inside s i = is_arm s i && is_in door P.F s i

  -- the first arm not idle after the one served last
  abbrev pub first_busy : State At → ℕ → Option ℕ
  first_busy s last = find (is_busy s) (in_turn s.n last)

  -- the calls that serve it: one inside is admitted and left, any other is stepped
  abbrev pub serving : State At → ℕ → List Call
  serving s i = if is_inside s i then admit i ∷ leave s.number i ∷ [] else step i ∷ []

  abbrev pub serving_any : State At → Option ℕ → List Call
  serving_any s None = []
  serving_any s (Some i) = serving s i

  -- a move that gets a ring of these arms: the gate's state once the head is begun, which arm is served then, and all calls
  abbrev pub opened : Dispatch At → List ℕ → State At
  opened d asked = run door d.gate (opening asked)

  abbrev pub in_line : Dispatch At → List ℕ → Option ℕ
  in_line d asked = first_busy (opened d asked) d.last

  abbrev pub calls_of_move : Dispatch At → List ℕ → List Call
  calls_of_move d asked = opening asked ++ serving_any (opened d asked) (in_line d asked)

  -- what the move answers, and the dispatcher after it
  abbrev pub served : Dispatch At → List ℕ → ℕ
  served d asked = number_or_0 (in_line d asked)

  abbrev pub moved : Dispatch At → List ℕ → Dispatch At
  moved d asked = record { gate = run door d.gate (calls_of_move d asked); last = last_after d.last (in_line d asked) }
