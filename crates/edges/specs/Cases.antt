-- The edge cases: what each kind of case claims, of any door and any bank.
use Rattle.std.specs.Prelude.{◌≡◌, ℕ, ◌<◌, ◌≤◌, Bool, false, List, [], length, Some, None, Ok, Err, codes, slice_index_or}
use Prim.Native.String.{String}
use Rattle.schedule.specs.Faults.{fault_number, fault_place, fault_order, fault_layer}
use Rattle.schedule.specs.Numbers.{groups, number_from}
use Rattle.schedule.specs.Reading.{contents, says}
use Rattle.schedule.specs.declared.fault.PlayFault.{PlayFault}
use Rattle.bank.specs.Lent.{Lent, unlogged}
use Rattle.gate_model.specs.Table.{Table}
use Rattle.gate_model.specs.Arms.{fresh}
use Rattle.gate_model.specs.Calls.{refusal_of, way_answer, with_visit}
use Rattle.gate.specs.Answers.{tally_answer}
use Rattle.gate_model.specs.Making.{arms_for}
use Rattle.gate_model.specs.Refusals.{refusal_number}
use Rattle.gate_model.specs.SameGates.{SameGates}
use Rattle.gate_model.specs.States.{State, made, with_arm}
use Rattle.gate_model.specs.declared.call.Call.{Call}
use Rattle.gate.specs.declared.gate.Tally.{Tally}
use Rattle.gate_model.specs.declared.refusal.Refusal.{Refusal}
use Rattle.play.specs.Limits.{report_room}
use Rattle.play.specs.Playing.{obeyed_by, playable, play_answer, play_memory}
use Rattle.play.specs.Reports.{fault_text, layer_word}
use Rattle.play.specs.Text.{overwritten}

-- a question, and the answer that is expected
pub data Case (At : Type 0) : Type 0 where
  -- a number: its bytes, as they are written and as they are read
  writes : ℕ → List ℕ → Case At
  reads : List ℕ → ℕ → Case At
  -- a file without orders: its arm count
  opens : List ℕ → ℕ → Case At
  -- a file: the number, place, order and layer of its fault
  fails : List ℕ → ℕ → ℕ → ℕ → String → Case At
  -- a file: the line of its fault
  tells : List ℕ → String → Case At
  -- a file: the report of a play over the bank
  plays : List ℕ → String → Case At
  -- the highest value of a bank, a count of registers and the arms wanted: the arms given
  gives : ℕ → ℕ → ℕ → ℕ → Case At
  -- the highest value of a bank that gets no arms, however many registers it has and arms are wanted
  bars : ℕ → Case At
  -- a gate and a call: accepted, or refused with a number
  accepts : State At → Call → Case At
  refuses : State At → Call → ℕ → Case At
  -- a gate and a waiting arm: whether the arm has right of way
  frees : State At → ℕ → Bool → Case At
  -- a gate, an arm and another: how often the other went inside while it last waited
  counts : State At → ℕ → ℕ → ℕ → Case At
  -- a gate, an arm and another: whether the other was idle when it ended its doorway
  notes : State At → ℕ → ℕ → Bool → Case At
  -- a gate: how often its bit turned
  turned : State At → ℕ → Case At
  -- two gates of the door that are the same, and two that are not
  matches : State At → State At → Case At
  differs : State At → State At → Case At

-- the file has a fault of which P holds
abbrev pub Faulty : List ℕ → (PlayFault → Type 0) → Type 0
Faulty file P = (fault : PlayFault) × (says file ≡ Err fault) × P fault

-- of a door and a bank: the bank's highest value, and its registers before a gate is made over it
module _ {At : Type 0} (door : Table At) (highest : ℕ) (registers : List ℕ) where
  -- a gate with a number over the bank after the orders of a file
  abbrev pub numbered_after : ℕ → ℕ → List ℕ → State At
  numbered_after number arms file = obeyed_by door (says file) (made door (record { memory = unlogged 0; high = highest; number = number; wanted = arms; regs = registers }))

  -- that of gate number 0
  abbrev pub gate_after : ℕ → List ℕ → State At
  gate_after = numbered_after 0

  -- a gate of one arm, which has begun so many visits and is idle
  abbrev pub gate_visited : ℕ → State At
  gate_visited visits = with_arm 1 (with_visit door.idle visits false (fresh door)) (made door (record { memory = unlogged 0; high = highest; number = 0; wanted = 1; regs = registers }))

  -- a play over a bank in any memory, with this report memory, answers the length of a text, and leaves the text at the start of the memory
  pub record Plays (lent : Lent) (file text memory : List ℕ) : Type 0 where
    pub answer : play_answer door lent highest registers (playable file (length memory)) ≡ Ok (length text)
    pub report : play_memory door lent highest registers memory (playable file (length memory)) ≡ overwritten memory text

  -- what a case claims
  abbrev pub Holds : Case At → Type 0
  Holds (writes number bytes) = groups number ≡ bytes
  Holds (reads bytes number) = number_from 0 bytes ≡ Ok (record { value = number; next = length bytes })
  Holds (opens file arms) = says file ≡ Ok (contents arms [])
  Holds (fails file number place order layer) =
      Faulty file (λ f. (fault_number f ≡ number) × (fault_place f ≡ place) × (fault_order f ≡ order) × (layer_word (fault_layer f) ≡ codes layer))
  Holds (tells file line) = Faulty file (λ f. fault_text f ≡ codes line)
  Holds (plays file text) = (lent : Lent) (memory : List ℕ) → report_room ≤ length memory → Plays lent file (codes text) memory
  Holds (gives high room wanted arms) = arms_for door high room wanted ≡ arms
  Holds (bars high) = (room wanted : ℕ) → arms_for door high room wanted ≡ 0
  Holds (accepts s call) = refusal_of door s call ≡ None
  Holds (refuses s call number) = (r : Refusal) × (refusal_of door s call ≡ Some r) × (refusal_number r ≡ number)
  Holds (frees s i free) = way_answer door s i ≡ Ok free
  Holds (counts s w b times) = (t : Tally) × (tally_answer door s w b ≡ Ok t) × (t.count ≡ times)
  Holds (notes s w b idle) = (t : Tally) × (tally_answer door s w b ≡ Ok t) × (t.idle ≡ idle)
  Holds (turned s times) = s.turns ≡ times
  Holds (matches s t) = SameGates door s t
  Holds (differs s t) = ¬ (SameGates door s t)

  -- each case of a table holds
  abbrev pub EachHolds : List (Case At) → Type 0
  EachHolds table = (k : ℕ) (other : Case At) → k < length table → Holds (slice_index_or table k other)
