-- What the file of a recorder says of its gate, at every moment.
use Rattle.std.specs.Prelude.{◌≡◌, ℕ, if◌then◌else◌, T, List, [], ◌∷◌, ◌++◌, length, take, Ok, is_some, option_to_list}
use Rattle.gate_model.specs.Law.{IsReached}
use Rattle.gate_model.specs.Making.{Making, arms_of}
use Rattle.gate_model.specs.SameButMarks.{SameButMarks}
use Rattle.gate_model.specs.States.{State, made}
use Rattle.gate_model.specs.Table.{Table}
use Rattle.obeying.specs.Obeying.{obeyed_all, refusals}
use Rattle.recorder.specs.Recorders.{Recording, Handed, is_fit, over, added, after_call, memory_after, after_calls}
use Rattle.schedule.specs.Laws.{IsLawful}
use Rattle.schedule.specs.Numbers.{groups}
use Rattle.schedule.specs.Reading.{contents, says}
use Rattle.schedule.specs.Writing.{file_bytes}
use Rattle.schedule.specs.declared.order_number.Order.{Order}

module _ {At : Type 0} (door : Table At) where
  -- the orders that a list of calls adds to the file
  abbrev pub recorded : Recording At → List Handed → List Order
  recorded r [] = []
  recorded r (h ∷ hs) = option_to_list (added door r h) ++ recorded (after_call door r h) hs

  -- the bytes written by now, after a call: where it adds an order, the first ones of its memory after the call; else the same as before
  abbrev pub bytes_after : Recording At → List ℕ → Handed → List ℕ
  bytes_after r bytes h = if is_some (added door r h) then take (after_call door r h).written (memory_after door r h) else bytes

  -- and after a list of calls
  abbrev pub written_by : Recording At → List ℕ → List Handed → List ℕ
  written_by r bytes [] = bytes
  written_by r bytes (h ∷ hs) = written_by (after_call door r h) (bytes_after r bytes h) hs

  -- the host leaves the written bytes in place: memory that an order is added to begins with what was written before
  abbrev pub InPlace : Recording At → List ℕ → List Handed → Type 0
  InPlace r bytes [] = Unit {0}
  InPlace r bytes (h ∷ hs) = (T (is_some (added door r h)) → take r.written h.memory ≡ bytes) × InPlace (after_call door r h) (bytes_after r bytes h) hs

  -- a gate that is made over any bank, with any number, and has as many arms as s, refuses none of the orders, and is after them the same as s
  -- but for its number and the marks of passes out
  abbrev pub Replays : List Order → State At → Type 0
  Replays orders s = (making : Making) → arms_of door making ≡ s.n →
      (refusals door (made door making) orders ≡ 0) × SameButMarks door s (obeyed_all door (made door making) orders)

  -- the bytes that a recorder has written are the file of these orders, which is lawful, reads back as them, and replays
  pub record IsRecord (r : Recording At) (bytes : List ℕ) (orders : List Order) : Type 0 where
    pub lawful : IsLawful (contents r.gate.n orders)
    pub is_file : bytes ≡ file_bytes r.gate.n orders
    pub size : length bytes ≡ r.written
    pub reads_back : says bytes ≡ Ok (contents r.gate.n orders)
    pub replays : Replays orders r.gate

  -- the recorder over the gate that its start looked at
  abbrev pub begun : State At → Recording At
  begun s = over door s.n s

  -- the law of a recorder that was begun over a fit gate whose arm count was written: whatever was called since, refused or not and over
  -- whatever memory, as long as the host leaves the written bytes in place
  abbrev pub LawOfRecords : Recording At → Type 0
  LawOfRecords r = (gate : State At) (past : List Handed) → IsReached door gate → T (is_fit door gate) → after_calls door (begun gate) past ≡ r →
      InPlace (begun gate) (groups gate.n) past →
      IsRecord r (written_by (begun gate) (groups gate.n) past) (recorded (begun gate) past)
