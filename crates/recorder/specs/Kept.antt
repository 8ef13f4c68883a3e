-- What a host that leaves the written bytes in place keeps: the memory begins with what its recorder has written.
use Rattle.std.specs.Prelude.{◌≡◌, ℕ, ◌≤◌, T, List, length, take}
use Rattle.gate_model.specs.Law.{IsReached}
use Rattle.gate_model.specs.States.{State}
use Rattle.gate_model.specs.Table.{Table}
use Rattle.recorder.specs.Law.{InPlace, IsRecord, begun, written_by}
use Rattle.recorder.specs.Recorders.{Recording, Handed, is_fit, after_calls}
use Rattle.schedule.specs.Numbers.{groups}
use Rattle.schedule.specs.declared.order_number.Order.{Order}

module _ {At : Type 0} (door : Table At) where
  -- calls, in which the written bytes were left in place, lead from the recorder just begun over this gate to r, and the memory begins with
  -- the bytes that they have written
  pub record Kept (gate : State At) (r : Recording At) (memory : List ℕ) : Type 0 where
    pub past : List Handed
    pub leads : after_calls door (begun door gate) past ≡ r
    pub in_place : InPlace door (begun door gate) (groups gate.n) past
    pub bytes : take r.written memory ≡ written_by door (begun door gate) (groups gate.n) past
    pub within : r.written ≤ length memory

  -- of some gate that can be recorded
  abbrev pub HoldsRecord : Recording At → List ℕ → Type 0
  HoldsRecord r memory = (gate : State At) × IsReached door gate × T (is_fit door gate) × Kept gate r memory

  -- the first bytes of memory that holds what was written, as many as there are, are a record
  abbrev pub LawInHand : Recording At → Type 0
  LawInHand r = (memory : List ℕ) → HoldsRecord r memory → (orders : List Order) × IsRecord door r (take r.written memory) orders
