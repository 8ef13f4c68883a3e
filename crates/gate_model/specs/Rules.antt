-- The rules that each door shows: what a call of arm i may make of the meaning of a gate, which is m before it and m' after it.
use Rattle.std.specs.Prelude.{◌≡◌, ℕ, ◌≤◌, Bool, not, T, ◌≢◌, List}
use Rattle.gate_model.specs.Making.{Making}
use Rattle.gate_model.specs.Table.{Table}
use Rattle.gate_model.specs.Arms.{side_of}
use Rattle.gate_model.specs.States.{State, made, is_arm, arm_at, bit_of}
use Rattle.gate_model.specs.Calls.{after, run}
use Rattle.gate_model.specs.Meaning.{same_bit, Stage, resting, coming, read, waiting, inside, leaving, turned, has, Meaning, meaning_of, arm_of}
use Rattle.gate_model.specs.declared.call.Call.{Call}
use Rattle.gate_model.specs.declared.phase.Phase.TheVariants as P

-- the phases of an arm follow one another as I, D, W, F, X, I; each doorway gives the arm its side exactly once, and the arm
-- keeps it to its last exit step. Doorways.antt says at which access it gets the side
pub data Follows : Stage → Stage → Type 0 where
  stays : {a : Stage} → Follows a a
  begins : Follows resting coming
  reads : {t : Bool} → Follows coming (read t)
  ends : {t : Bool} → Follows (read t) (waiting t)
  enters : {t : Bool} → Follows (waiting t) (inside t)
  leaves : {t : Bool} → Follows (inside t) (leaving t)
  turns : {t : Bool} → Follows (leaving t) (turned t)
  quits : {t : Bool} → Follows (turned t) resting

-- the bit differs from t, or no arm has the side other than t
abbrev pub Free : Bool → (ℕ → Stage) → Bool → Type 0
Free bit arms t = (k : ℕ) → T (has (not t) (arms k)) → T (same_bit bit (not t))

module _ (m m' : Meaning) (i : ℕ) where
  -- a call alters the phase and side of its own arm only
  abbrev pub OwnArmOnly : Type 0
  OwnArmOnly = (k : ℕ) → k ≢ i → m'.arms k ≡ m.arms k

  -- a side is the bit at the moment it is read
  abbrev pub SideIsTheBit : Type 0
  SideIsTheBit = (t : Bool) → m.arms i ≡ coming → m'.arms i ≡ read t → t ≡ m.bit

  -- an arm goes inside only while the bit differs from its side or no other arm has the other side
  abbrev pub EntersFree : Type 0
  EntersFree = (t : Bool) → m.arms i ≡ waiting t → m'.arms i ≡ inside t → Free m.bit m.arms t

  -- the first exit step of an arm with side t
  abbrev pub FirstExitStep : Bool → Type 0
  FirstExitStep t = (m.arms i ≡ leaving t) × (m'.arms i ≡ turned t)

  -- only the first exit step alters the bit, setting it to 1 - side
  abbrev pub OnlyExitTurns : Type 0
  OnlyExitTurns = ((t : Bool) → FirstExitStep t → m'.bit ≡ not t) × (((t : Bool) → ¬ (FirstExitStep t)) → m'.bit ≡ m.bit)

-- a call of arm i keeps the rules
pub record Keeps (m m' : Meaning) (i : ℕ) : Type 0 where
  pub own_arm_only : OwnArmOnly m m' i
  pub in_order : Follows (m.arms i) (m'.arms i)
  pub side_is_the_bit : SideIsTheBit m m' i
  pub enters_free : EntersFree m m' i
  pub only_exit_turns : OnlyExitTurns m m' i

-- Q holds of every making and every list of calls: of the state just made, the calls, and the state that they lead to
abbrev pub Always : {At : Type 0} → Table At → (State At → List Call → State At → Type 0) → Type 0
Always {At} door Q = (making : Making) (past : List Call) →
    let start : State At = made door making in
    Q start past (run door start past)

-- the door shows the rules: whatever was called before, each call keeps them
abbrev pub ShowsRules : {At : Type 0} → Table At → Type 0
ShowsRules door = Always door (λ start past s. (c : Call) → Keeps (meaning_of door s) (meaning_of door (after door s c)) (arm_of c))

-- an arm rests in I, a begun visit starts in D, and an arm that leaves goes to X
pub record Phased {At : Type 0} (door : Table At) : Type 0 where
  pub idle : door.phase door.idle ≡ P.I
  pub entry : door.phase door.entry ≡ P.D
  pub exit : door.phase door.exit ≡ P.X

-- the bit is 0 or 1, and so is each side
pub record AreBits {At : Type 0} (door : Table At) (s : State At) : Type 0 where
  pub bit : bit_of s ≤ 1
  pub sides : (i : ℕ) → T (is_arm s i) → side_of (arm_at door s i).side ≤ 1

-- the door shows it, whatever was called before
abbrev pub ShowsBits : {At : Type 0} → Table At → Type 0
ShowsBits door = Always door (λ start past s. AreBits door s)
