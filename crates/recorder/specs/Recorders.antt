-- A recorder over a gate: which gates it records, what it turns down, and what it writes.
use Rattle.std.specs.Prelude.{◌≡◌, ℕ, ◌+◌, ◌≤◌, Bool, if◌then◌else◌, not, ◌&&◌, List, [], ◌∷◌, length, Some, None, Option, is_some, ◌==◌, nat_le}
use Rattle.std.specs.List.{list_all, range_with_len}
use Rattle.gate_model.specs.Calls.{after}
use Rattle.gate_model.specs.History.{accepted}
use Rattle.gate_model.specs.Law.{IsReached}
use Rattle.gate_model.specs.States.{State, arm_at}
use Rattle.gate_model.specs.Table.{Table}
use Rattle.gate_model.specs.declared.call.Call.{Call}
use Rattle.gate_model.specs.declared.call.Call.TheVariants.{Begin as begin, Step as step, Leave as leave}
use Rattle.recorder.specs.declared.refusal.Refusal.{Refusal}
use Rattle.recorder.specs.declared.refusal.Refusal.TheVariants.{FileFull, UnfitGate}
use Rattle.schedule.specs.FileLimits.{file_limit}
use Rattle.schedule.specs.Numbers.{groups}
use Rattle.schedule.specs.Orders.{order_number}
use Rattle.schedule.specs.Writing.{written_at}
use Rattle.schedule.specs.declared.order_number.Order.{Order}
use Rattle.schedule.specs.declared.order_number.Order.TheVariants.{Begin, Step, Leave}

-- gate: the state of its gate; written: how many bytes of its file are written; fit: whether it records this gate
pub record Recording (At : Type 0) : Type 0 where
  pub gate : State At
  pub written : ℕ
  pub fit : Bool

-- a call of the gate that is made through the recorder, and the memory that comes with it
pub record Handed : Type 0 where
  pub call : Call
  pub memory : List ℕ

abbrev pub handed : Call → List ℕ → Handed
handed c memory = record { call = c; memory = memory }

-- the order that an accepted call is written as; an admit is not written, and neither is a call that only tells something
abbrev pub written_as : Call → Option Order
written_as (begin i) = Some (Begin i)
written_as (step i) = Some (Step i)
written_as (leave gate i) = Some (Leave i)
written_as c = None

-- whether two bytes are free after those written, in memory of so many bytes, and two are left up to the longest file
abbrev pub has_room : ℕ → ℕ → Bool
has_room written size = nat_le (written + 2) size && nat_le (written + 2) file_limit

-- how many bytes an order takes, if there is one, and the memory once it is written at a place
abbrev pub order_size : Option Order → ℕ
order_size None = 0
order_size (Some o) = length (groups (order_number o))

abbrev pub written_down : Option Order → ℕ → List ℕ → List ℕ
written_down None at memory = memory
written_down (Some o) at memory = written_at at (groups (order_number o)) memory

-- new; or old, where the recorder turned a call down
abbrev pub unless_down : {X : Type 0} → Option Refusal → X → X → X
unless_down None new old = new
unless_down (Some refusal) new old = old

-- why the recorder turns a call down before its gate is called: 19, then 18 for a call that would be written; none where the gate is called
abbrev pub turned_down : {At : Type 0} → Recording At → Handed → Option Refusal
turned_down r h =
    if r.fit
    then (if is_some (written_as h.call) && not (has_room r.written (length h.memory)) then Some FileFull else None)
    else Some UnfitGate

module _ {At : Type 0} (door : Table At) where
  -- whether a gate is one that can be recorded: it has arms, and no visit of them was begun
  abbrev pub is_fit : State At → Bool
  is_fit s = nat_le 1 s.n && list_all (λ i. (arm_at door s i).visits == 0) (range_with_len 1 s.n)

  -- why recording does not start on a gate, with memory of so many bytes: 19, then 18; none where it starts
  abbrev pub start_refusal : State At → ℕ → Option Refusal
  start_refusal s size = if is_fit s then (if has_room 0 size then None else Some FileFull) else Some UnfitGate

  -- the memory after that: the arm count is written
  abbrev pub memory_started : State At → List ℕ → List ℕ
  memory_started s memory = unless_down (start_refusal s (length memory)) (written_at 0 (groups s.n) memory) memory

  -- the recorder over a gate whose start wrote this arm count; the gate may be another one than the start looked at
  abbrev pub over : ℕ → State At → Recording At
  over arms s = record { gate = s; written = length (groups arms); fit = is_fit s && s.n == arms }

  -- whether the gate is called and accepts the call
  abbrev pub goes_through : Recording At → Handed → Bool
  goes_through r h = not (is_some (turned_down r h)) && accepted door r.gate h.call

  -- the order that a call adds to the file, if it adds one
  abbrev pub added : Recording At → Handed → Option Order
  added r h = if goes_through r h then written_as h.call else None

  -- the recorder after a call, and the memory that came with it
  abbrev pub after_call : Recording At → Handed → Recording At
  after_call r h =
      record r {
        gate = unless_down (turned_down r h) (after door r.gate h.call) r.gate;
        written = r.written + order_size (added r h);
      }

  abbrev pub memory_after : Recording At → Handed → List ℕ
  memory_after r h = written_down (added r h) r.written h.memory

  -- the recorder after a list of calls, one after another
  abbrev pub after_calls : Recording At → List Handed → Recording At
  after_calls r [] = r
  after_calls r (h ∷ hs) = after_calls (after_call r h) hs

-- a gate, an arm count that a start wrote, and calls since then, that lead to the recorder r
pub record RecorderOrigin {At : Type 0} (door : Table At) (r : Recording At) : Type 0 where
  pub gate : State At
  pub reached : IsReached door gate
  pub arms : ℕ
  pub calls : List Handed
  pub leads : after_calls door (over door arms gate) calls ≡ r

-- the file is no longer than it may be, and a gate, a start and calls lead to the recorder
pub record IsRecorder {At : Type 0} (door : Table At) (r : Recording At) : Type 0 where
  pub short : r.written ≤ file_limit
  pub reached : ∥ RecorderOrigin door r ∥₁
