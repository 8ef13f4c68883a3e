-- The fairness of a gate, over any door.
use Rattle.std.specs.Prelude.{◌≡◌, ℕ, ◌+◌, ◌-◌, ◌*◌, ◌≤◌, Bool, true, false, if◌then◌else◌, not, T, ◌↔◌, List, Some, Ok, Result, slice_index, slice_index_or}
use Rattle.gate_model.specs.Making.{Making}
use Rattle.gate_model.specs.Table.{Table}
use Rattle.gate_model.specs.States.{State, made, is_arm, arm_at}
use Rattle.gate_model.specs.Calls.{run, has_way}
use Rattle.gate_model.specs.History.{is_in, Waits, IsPastDoorway, RightOfWay, reads_for, bit_read, reads_in_visit, entries_since, idle_then, lost_to, Rounds, GoesInside}
use Rattle.gate_model.specs.Rules.{Always}
use Rattle.gate_model.specs.declared.call.Call.{Call}
use Rattle.gate_model.specs.declared.phase.Phase.TheVariants as P
use Rattle.gate_model.specs.declared.refusal.Refusal.{Refusal}

module _ {At : Type 0} (door : Table At) where
  -- two waiting arms both have right of way, or neither, exactly if the bits that they read are equal
  abbrev pub Alike : State At → List Call → State At → Type 0
  Alike start past s = (u w : ℕ) → Waits door s u → Waits door s w → ((RightOfWay door s u ↔ RightOfWay door s w) ↔ (bit_read door u start past ≡ bit_read door w start past))

  -- since a waiting arm ended its doorway, each arm has gone inside at most twice
  abbrev pub AtMostTwice : State At → List Call → State At → Type 0
  AtMostTwice start past s = (w b : ℕ) → Waits door s w → T (is_arm s b) → entries_since door w b start past ≤ 2

  -- since a waiting arm ended its doorway, an arm that was idle then has gone inside at most once
  abbrev pub OnceIfIdle : State At → List Call → State At → Type 0
  OnceIfIdle start past s = (w b : ℕ) → Waits door s w → T (is_arm s b) → T (idle_then door w b start past) → entries_since door w b start past ≤ 1

  -- since a waiting arm ended its doorway, it has not gone inside itself
  abbrev pub NotItself : State At → List Call → State At → Type 0
  NotItself start past s = (w : ℕ) → Waits door s w → entries_since door w w start past ≡ 0

  -- since an arm in W, F or X ended its doorway, each arm has gone inside at most twice
  abbrev pub AtMostTwiceUntilIdle : State At → List Call → State At → Type 0
  AtMostTwiceUntilIdle start past s = (w b : ℕ) → IsPastDoorway door s w → T (is_arm s b) → entries_since door w b start past ≤ 2

  -- since an arm in W, F or X ended its doorway, an arm that was idle then has gone inside at most once
  abbrev pub OnceIfIdleUntilIdle : State At → List Call → State At → Type 0
  OnceIfIdleUntilIdle start past s = (w b : ℕ) → IsPastDoorway door s w → T (is_arm s b) → T (idle_then door w b start past) → entries_since door w b start past ≤ 1

  -- since an arm in W, F or X ended its doorway, it has gone inside itself exactly once if it is in F or X, and not yet if it waits
  abbrev pub OnceItself : State At → List Call → State At → Type 0
  OnceItself start past s = (w : ℕ) → IsPastDoorway door s w → entries_since door w w start past ≡ (if is_in door P.W s w then 0 else 1)

  -- the row of a waiting arm counts how often each arm has gone inside since it ended its doorway
  abbrev pub RowCounts : State At → List Call → State At → Type 0
  RowCounts start past s = (w b : ℕ) → Waits door s w → T (is_arm s b) → slice_index (arm_at door s w).row (b - 1) ≡ entries_since door w b start past

  -- the notes of a waiting arm tell which arms were idle when it ended its doorway
  abbrev pub NotesTell : State At → List Call → State At → Type 0
  NotesTell start past s = (w b : ℕ) → Waits door s w → T (is_arm s b) → slice_index_or (arm_at door s w).notes (b - 1) false ≡ idle_then door w b start past

  -- the row of every arm, whatever its phase, counts how often each arm went inside while it last waited
  abbrev pub RowKept : State At → List Call → State At → Type 0
  RowKept start past s = (w b : ℕ) → T (is_arm s w) → T (is_arm s b) → slice_index (arm_at door s w).row (b - 1) ≡ lost_to door w b start past

  -- the notes of every arm, whatever its phase, tell which arms were idle when that wait began
  abbrev pub NotesKept : State At → List Call → State At → Type 0
  NotesKept start past s = (w b : ℕ) → T (is_arm s w) → T (is_arm s b) → slice_index_or (arm_at door s w).notes (b - 1) false ≡ idle_then door w b start past

  -- while an arm last waited, each arm went inside at most twice, and at most once if it was idle when that wait began
  abbrev pub LostAtMostTwice : State At → List Call → State At → Type 0
  LostAtMostTwice start past s = (w b : ℕ) → T (is_arm s w) → T (is_arm s b) → (lost_to door w b start past ≤ 2) × (T (idle_then door w b start past) → lost_to door w b start past ≤ 1)

  -- since it last began, an arm in W, F or X has read the bit exactly once in its doorway
  abbrev pub ReadOnce : State At → List Call → State At → Type 0
  ReadOnce start past s = (w : ℕ) → IsPastDoorway door s w → reads_in_visit door w start past ≡ 1

  -- since it last began, an arm that is not idle has read the bit in its doorway once if it has a side, and not yet if its side is missing
  abbrev pub ReadIfSided : State At → List Call → State At → Type 0
  ReadIfSided start past s = (w : ℕ) → T (is_arm s w) → T (not (is_in door P.I s w)) → reads_in_visit door w start past ≡ reads_for (arm_at door s w).side

  -- the side of an arm that is not idle is the bit that it read in its doorway
  abbrev pub SideRead : State At → List Call → State At → Type 0
  SideRead start past s = (w v : ℕ) → T (is_arm s w) → T (not (is_in door P.I s w)) → (arm_at door s w).side ≡ Some v → v ≡ bit_read door w start past

  -- a waiting arm goes inside in every list of calls that can be cut into 50 n + 10 rounds
  abbrev pub AllInside : State At → Type 0
  AllInside s = (w : ℕ) → Waits door s w → (further : List Call) → Rounds door (50 * s.n + 10) s further → GoesInside door w s further

  -- a waiting arm goes inside in every list of calls that can be cut into k rounds
  abbrev pub InsideWithin : ℕ → State At → Type 0
  InsideWithin k s = (w : ℕ) → Waits door s w → (further : List Call) → Rounds door k s further → GoesInside door w s further

  -- a waiting arm goes inside within 8 n + 20 rounds
  abbrev pub AllInsideSooner : State At → Type 0
  AllInsideSooner s = InsideWithin (8 * s.n + 20) s

  -- a waiting arm goes inside within as many rounds as the door's table names
  abbrev pub AllInsideByDoor : State At → Type 0
  AllInsideByDoor s = InsideWithin (door.rounds s.n) s

  -- what the call way tells of a waiting arm is right of way
  abbrev pub WayTold : State At → Type 0
  WayTold s = (w : ℕ) → Waits door s w → (T (has_way door s w) ↔ RightOfWay door s w)

-- the law of a gate in the state s; start is its state when it was just made, and past the calls since
module _ {At : Type 0} (door : Table At) (start : State At) (past : List Call) (s : State At) where
  -- how often an arm is passed: follows from Phased and the rules alone
  pub record Passing : Type 0 where
    pub twice : AtMostTwice door start past s
    pub once : OnceIfIdle door start past s
    pub itself : NotItself door start past s
    pub twice_until_idle : AtMostTwiceUntilIdle door start past s
    pub once_until_idle : OnceIfIdleUntilIdle door start past s
    pub once_itself : OnceItself door start past s
    pub row : RowCounts door start past s
    pub notes : NotesTell door start past s
    pub row_kept : RowKept door start past s
    pub notes_kept : NotesKept door start past s
    pub lost : LostAtMostTwice door start past s

  -- each doorway reads the bit exactly once: follows from Phased, the rules and ShowsReads
  pub record Reading : Type 0 where
    pub read_once : ReadOnce door start past s
    pub read_if_sided : ReadIfSided door start past s
    pub side_read : SideRead door start past s

  -- right of way, and going inside within the rounds that the door's table names: each door shows it by an argument of its own
  pub record Entering : Type 0 where
    pub alike : Alike door start past s
    pub by_door : AllInsideByDoor door s
    pub told : WayTold door s

  -- the whole law; rounds and sooner follow from entering, since a door's table names 8 n + 20 rounds at most
  pub record Fair : Type 0 where
    pub passing : Passing
    pub reading : Reading
    pub entering : Entering
    pub rounds : AllInside door s
    pub sooner : AllInsideSooner door s

-- passing and reading, of every making and every list of calls
abbrev pub PassingBound : {At : Type 0} → Table At → Type 0
PassingBound door = Always door (Passing door)

abbrev pub ReadingBound : {At : Type 0} → Table At → Type 0
ReadingBound door = Always door (Reading door)

-- what a door shows of right of way and going inside, and that its table names 8 n + 20 rounds at most
pub record ShowsWay {At : Type 0} (door : Table At) : Type 0 where
  pub entering : Always door (Entering door)
  pub few : (n : ℕ) → door.rounds n ≤ 8 * n + 20

-- a gate in this state is fair, however it was made and whatever was called
abbrev pub Law : {At : Type 0} → Table At → State At → Type 0
Law {At} door s = (making : Making) (past : List Call) →
    let start : State At = made door making in
    run door start past ≡ s → Fair door start past s

-- a making, and calls since then, that lead to the state s
pub record Origin {At : Type 0} (door : Table At) (s : State At) : Type 0 where
  pub making : Making
  pub calls : List Call
  pub leads : run door (made door making) calls ≡ s

-- some making and some calls lead to the state s
abbrev pub IsReached : {At : Type 0} → Table At → State At → Type 0
IsReached door s = ∥ Origin door s ∥₁

-- an answer is yes exactly if the arm, where it waits, has right of way
abbrev pub Tells : {At : Type 0} → Table At → State At → ℕ → Result Bool Refusal → Type 0
Tells door s w answer = Waits door s w → (answer ≡ Ok true ↔ RightOfWay door s w)
