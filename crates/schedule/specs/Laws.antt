-- Reader and writer are inverse, both ways, and a file that grows by an order is that of the list with this order more.
use Rattle.std.specs.Prelude.{◌≡◌, ℕ, ◌<◌, ◌≤◌, All, IfOk, List, [], ◌∷◌, ◌++◌, length, take, Ok, Err, Result}
use Rattle.schedule.specs.declared.order_number.Order.{Order}
use Rattle.schedule.specs.declared.schedule_file.Heading.{Heading}
use Rattle.schedule.specs.declared.fault.PlayFault.{PlayFault}
use Rattle.schedule.specs.declared.writer.WriteRefusal.{WriteRefusal}
use Rattle.schedule.specs.FileLimits.{arm_limit, file_limit, largest_arm}
use Rattle.schedule.specs.Orders.{arm_of_order}
use Rattle.schedule.specs.Reading.{Contents, contents, says}
use Rattle.schedule.specs.Writing.{file_bytes, file_of, write_answer, write_memory}

-- the file of a list
abbrev pub bytes_of : Contents → List ℕ
bytes_of c = file_bytes c.arms c.orders

-- a list is lawful if its arm count is 1 to 100, no arm is above 4,095, and its file has at most 60,000 bytes
pub record IsLawful (c : Contents) : Type 0 where
  pub some_arms : 1 ≤ c.arms
  pub few_arms : c.arms ≤ arm_limit
  pub near_arms : All (λ o. arm_of_order o ≤ largest_arm) c.orders
  pub short : length (bytes_of c) ≤ file_limit

-- each number of the list is a byte; the definitions take any numbers, and the laws say where they must be bytes
abbrev pub IsBytes : List ℕ → Type 0
IsBytes file = All (λ b. b < 256) file

-- the writer has a file for the lawful lists, and for no other
abbrev pub WritesLawful : Type 0
WritesLawful =
    (c : Contents)
    → (IsLawful c → file_of c.arms c.orders ≡ Ok (bytes_of c))
    × ((file : List ℕ) → file_of c.arms c.orders ≡ Ok file → IsLawful c × (file ≡ bytes_of c))

-- that file reads back as the list
abbrev pub ReadsBack : Type 0
ReadsBack = (c : Contents) → IsLawful c → IsBytes (bytes_of c) × (says (bytes_of c) ≡ Ok c)

-- no other file reads back as the list
abbrev pub OneFile : Type 0
OneFile = (c : Contents) → IsLawful c → (file : List ℕ) → IsBytes file → says file ≡ Ok c → file ≡ bytes_of c

-- what reads well is lawful, and is the file of what it reads as
abbrev pub ReadsLawful : Type 0
ReadsLawful = (file : List ℕ) → IsBytes file → (c : Contents) → says file ≡ Ok c → IsLawful c × (file ≡ bytes_of c)

pub record Inverse : Type 0 where
  pub writes_lawful : WritesLawful
  pub reads_back : ReadsBack
  pub one_file : OneFile
  pub reads_lawful : ReadsLawful

-- the list that a call of read put into the memory
abbrev pub listed : Heading → List Order → Contents
listed h memory = record { arms = h.arms; orders = take h.orders memory }

-- of a call of read: what it put into the memory is lawful, and the file that it read is the file of that
abbrev pub WasRead : Result Heading PlayFault → List ℕ → List Order → Type 0
WasRead (Ok h) file memory = IsLawful (listed h memory) × (file ≡ bytes_of (listed h memory))
WasRead (Err fault) file memory = Unit {0}

-- of a call of write: the list is lawful, and what was written into the memory reads back
abbrev pub WasWritten : Result ℕ WriteRefusal → Contents → List ℕ → Type 0
WasWritten (Ok n) c memory = IsLawful c × (says (take n memory) ≡ Ok c)
WasWritten (Err refusal) c memory = Unit {0}

-- memory begins with the file of a list, which ends at a place
pub record HoldsFile (c : Contents) (memory : List ℕ) (at : ℕ) : Type 0 where
  pub is_file : file_of c.arms c.orders ≡ Ok (take at memory)
  pub within : at ≤ length memory

-- a call answers what writing the whole list answers, and leaves the memory as that does; the memory then begins with the
-- list's file, which reads back
pub record IsAsWritten (answer_is : Result ℕ WriteRefusal) (c : Contents) (before after : List ℕ) : Type 0 where
  pub answer : answer_is ≡ write_answer c.arms c.orders (length before)
  pub memory : after ≡ write_memory c.arms c.orders before
  pub holds : IfOk answer_is (λ end. HoldsFile c after end)
  pub reads_back : WasWritten answer_is c after

-- starting a file does what writing the list of no orders does
abbrev pub WasStarted : Result ℕ WriteRefusal → ℕ → List ℕ → List ℕ → Type 0
WasStarted answer arms before after = IsAsWritten answer (contents arms []) before after

-- a list with one order more
abbrev pub with_order : Contents → Order → Contents
with_order c order = contents c.arms (c.orders ++ order ∷ [])

-- an order appended to the file of any list makes the file of the list with this order more, or is refused as that list is
pub record WasAppended (answer : Result ℕ WriteRefusal) (order : Order) (at : ℕ) (before after : List ℕ) : Type 0 where
  pub to_file : (c : Contents) → HoldsFile c before at → IsAsWritten answer (with_order c order) before after
