-- What playing a file comes to.
use Rattle.std.specs.Prelude.{◌≡◌, ℕ, ◌≤◌, IfOk, List, [], length, Ok, Err, Option, Result, if◌then◌else◌, nat_le}
use Rattle.bank.specs.Lent.{Lent}
use Rattle.gate_model.specs.Making.{Making, arms_for}
use Rattle.gate_model.specs.Table.{Table}
use Rattle.gate_model.specs.States.{State, made}
use Rattle.gate_model.specs.declared.refusal.Refusal.{Refusal}
use Rattle.obeying.specs.Obeying.{obeyed_all, refusals, each_refusal}
use Rattle.schedule.specs.FileLimits.{file_limit}
use Rattle.schedule.specs.Reading.{Contents, says}
use Rattle.schedule.specs.declared.fault.PlayFault.{PlayFault}
use Rattle.schedule.specs.declared.fault.PlayFault.TheVariants.{LongFile, ShortMemory}
use Rattle.play.specs.Limits.{report_room}
use Rattle.play.specs.Reports.{report_text}
use Rattle.play.specs.Text.{overwritten}

-- what a file says, or why it is not played with so much report memory: too long, then too little memory, then its first fault
abbrev pub playable : List ℕ → ℕ → Result Contents PlayFault
playable file room =
    if nat_le (length file) file_limit then (if nat_le report_room room then says file else Err ShortMemory) else Err LongFile

-- the making of gate 0 over a bank, for what a file says
abbrev pub over : Lent → ℕ → List ℕ → Contents → Making
over lent high regs c = record { memory = lent; high = high; number = 0; wanted = c.arms; regs = regs }

module _ {At : Type 0} (door : Table At) where
  -- that gate when it is made, and after the orders of the file
  abbrev pub start : Lent → ℕ → List ℕ → Contents → State At
  start lent high regs c = made door (over lent high regs c)

  abbrev pub end : Lent → ℕ → List ℕ → Contents → State At
  end lent high regs c = obeyed_all door (start lent high regs c) c.orders

  abbrev pub play_text : Lent → ℕ → List ℕ → Contents → List ℕ
  play_text lent high regs c = report_text door (end lent high regs c) (length c.orders) (refusals door (start lent high regs c) c.orders)

  -- what play answers, and what the bank and the report memory then hold
  abbrev pub play_answer : Lent → ℕ → List ℕ → Result Contents PlayFault → Result ℕ PlayFault
  play_answer lent high regs (Ok c) = Ok (length (play_text lent high regs c))
  play_answer lent high regs (Err fault) = Err fault

  abbrev pub play_regs : Lent → ℕ → List ℕ → Result Contents PlayFault → List ℕ
  play_regs lent high regs (Ok c) = (end lent high regs c).regs
  play_regs lent high regs (Err fault) = regs

  -- and the memory that the bank writes, with the log of its writes
  abbrev pub play_lent : Lent → ℕ → List ℕ → Result Contents PlayFault → Lent
  play_lent lent high regs (Ok c) = (end lent high regs c).memory
  play_lent lent high regs (Err fault) = lent

  abbrev pub play_memory : Lent → ℕ → List ℕ → List ℕ → Result Contents PlayFault → List ℕ
  play_memory lent high regs memory (Ok c) = overwritten memory (play_text lent high regs c)
  play_memory lent high regs memory (Err fault) = memory

  -- what a play comes to, over a bank (the memory that it writes, its highest value, its registers) and with report memory:
  -- what it answers, and what both then are
  pub record IsPlayed (lent : Lent) (high : ℕ) (regs file memory : List ℕ) (answer_is : Result ℕ PlayFault) (lent_is : Lent) (regs_are memory_is : List ℕ) : Type 0 where
    -- the length of the report, or the fault
    pub answer : answer_is ≡ play_answer lent high regs (playable file (length memory))
    -- the bank is over the memory that it was over
    pub same_bank : lent_is.name ≡ lent.name
    -- what was written to it is what the making and the orders write, or nothing
    pub written : lent_is ≡ play_lent lent high regs (playable file (length memory))
    -- the registers after the orders, or as they were
    pub registers : regs_are ≡ play_regs lent high regs (playable file (length memory))
    -- the report at the start of the memory, or the memory as it was
    pub report : memory_is ≡ play_memory lent high regs memory (playable file (length memory))
    -- a report always fits the least memory
    pub fits : IfOk answer_is (λ n. n ≤ report_room)

  -- why the gate of a play refused each order of the file
  abbrev pub play_refusals : Lent → ℕ → List ℕ → Result Contents PlayFault → List (Option Refusal)
  play_refusals lent high regs (Ok c) = each_refusal door (start lent high regs c) c.orders
  play_refusals lent high regs (Err fault) = []

  -- another bank gives a file as many arms
  abbrev pub GivesAsMany : (high : ℕ) (regs : List ℕ) (high' : ℕ) (regs' : List ℕ) → Result Contents PlayFault → Type 0
  GivesAsMany high regs high' regs' (Ok c) = arms_for door high' (length regs') c.arms ≡ arms_for door high (length regs) c.arms
  GivesAsMany high regs high' regs' (Err fault) = Unit {0}

  -- a play over a bank and one over another come to the same: the answer and the report memory of the one are those of the other,
  -- and each order is refused for the same reason
  pub record IsSamePlay (lent : Lent) (high : ℕ) (regs : List ℕ) (lent' : Lent) (high' : ℕ) (regs' : List ℕ) (said : Result Contents PlayFault) (memory : List ℕ) (answer_is : Result ℕ PlayFault) (memory_is : List ℕ) : Type 0 where
    pub answer : answer_is ≡ play_answer lent' high' regs' said
    pub report : memory_is ≡ play_memory lent' high' regs' memory said
    pub refusals : play_refusals lent' high' regs' said ≡ play_refusals lent high regs said

  -- the play comes to the same over every bank that gives the file as many arms, whatever it holds
  abbrev pub SameElsewhere : (lent : Lent) (high : ℕ) (regs file memory : List ℕ) → Result ℕ PlayFault → List ℕ → Type 0
  SameElsewhere lent high regs file memory answer_is memory_is =
      (lent' : Lent) (high' : ℕ) (regs' : List ℕ) → GivesAsMany high regs high' regs' (playable file (length memory))
      → IsSamePlay lent high regs lent' high' regs' (playable file (length memory)) memory answer_is memory_is

  -- a gate after the orders of a file; as it was where the file has a fault
  abbrev pub obeyed_by : Result Contents PlayFault → State At → State At
  obeyed_by (Ok c) s = obeyed_all door s c.orders
  obeyed_by (Err fault) s = s
