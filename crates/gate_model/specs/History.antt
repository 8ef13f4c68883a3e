-- What a list of calls that are made from a state on tells of the arms.
use Rattle.std.specs.Prelude.{◌≡◌, ℕ, zero, suc, ◌+◌, ◌*◌, Bool, true, false, if◌then◌else◌, not, ◌&&◌, ◌||◌, T, ◌⊎◌, List, [], ◌∷◌, ◌++◌, Some, None, Option, ◌==◌, slice_index}
use Rattle.gate_model.specs.Registers.{group}
use Rattle.gate_model.specs.Phases.{same_phase}
use Rattle.gate_model.specs.Table.{Table}
use Rattle.gate_model.specs.States.{State, is_arm, phase_at}
use Rattle.gate_model.specs.Calls.{refusal_of, access_at, after, run}
use Rattle.gate_model.specs.declared.access.Access.{Access}
use Rattle.gate_model.specs.declared.access.Access.TheVariants.{Read}
use Rattle.gate_model.specs.declared.call.Call.{Call}
use Rattle.gate_model.specs.declared.call.Call.TheVariants.{Begin as begin, Step as step, Admit as admit, Leave as leave}
use Rattle.gate_model.specs.declared.phase.Phase.{Phase}
use Rattle.gate_model.specs.declared.phase.Phase.TheVariants as P
use Rattle.gate_model.specs.declared.refusal.Refusal.{Refusal}

abbrev pub no_refusal : Option Refusal → Bool
no_refusal None = true
no_refusal (Some r) = false

-- whether a call is a begin of arm b
abbrev pub begin_of : ℕ → Call → Bool
begin_of b (begin i) = i == b
begin_of b c = false

-- whether a call is a step of arm b
abbrev pub step_of : ℕ → Call → Bool
step_of b (step i) = i == b
step_of b c = false

-- whether a call is a step, admit or leave of arm b
abbrev pub move_of : ℕ → Call → Bool
move_of b (step i) = i == b
move_of b (admit i) = i == b
move_of b (leave g i) = i == b
move_of b c = false

-- whether an access reads the group
abbrev pub of_group : Access → Bool
of_group (Read q) = q == group
of_group x = false

-- how often the doorway of an arm has read the bit, by its side: once, and not yet where the side is missing
abbrev pub reads_for : Option ℕ → ℕ
reads_for (Some v) = 1
reads_for None = 0

module _ {At : Type 0} (door : Table At) where
  abbrev pub accepted : State At → Call → Bool
  accepted s c = no_refusal (refusal_of door s c)

  -- whether arm i is in phase p
  abbrev pub is_in : Phase → State At → ℕ → Bool
  is_in p s i = same_phase (phase_at door s i) p

  -- an arm of the gate that waits
  abbrev pub Waits : State At → ℕ → Type 0
  Waits s w = T (is_arm s w && is_in P.W s w)

  -- whether an arm is past its doorway: it has ended its doorway and is not idle yet
  abbrev pub past_doorway : State At → ℕ → Bool
  past_doorway s w = is_in P.W s w || (is_in P.F s w || is_in P.X s w)

  -- an arm of the gate that is past its doorway
  abbrev pub IsPastDoorway : State At → ℕ → Type 0
  IsPastDoorway s w = T (is_arm s w && past_doorway s w)

  -- whether a call is an accepted begin of arm b
  abbrev pub begins : ℕ → State At → Call → Bool
  begins b s c = accepted s c && begin_of b c

  -- whether a call is an accepted step of arm b
  abbrev pub steps : ℕ → State At → Call → Bool
  steps b s c = accepted s c && step_of b c

  -- whether a call is an accepted step, admit or leave of arm b
  abbrev pub moves : ℕ → State At → Call → Bool
  moves b s c = accepted s c && move_of b c

  -- whether a call is an accepted step of b that takes it from phase p to phase q
  abbrev pub goes : Phase → Phase → ℕ → State At → Call → Bool
  goes p q b s c = steps b s c && (is_in p s b && is_in q (after door s c) b)

  abbrev pub goes_inside : ℕ → State At → Call → Bool
  goes_inside = goes P.W P.F

  -- whether a call is the last doorway step of an arm
  abbrev pub ends_doorway : ℕ → State At → Call → Bool
  ends_doorway = goes P.D P.W

  -- whether a call is an accepted doorway step of w that reads the group
  abbrev pub reads_group : ℕ → State At → Call → Bool
  reads_group w s c = steps w s c && (is_in P.D s w && of_group (access_at door s w))

  -- the value of register 0 at w's latest doorway step that reads it; v if the list has no such step
  abbrev pub latest_bit : ℕ → State At → List Call → ℕ → ℕ
  latest_bit w s [] v = v
  latest_bit w s (c ∷ cs) v = latest_bit w (after door s c) cs (if reads_group w s c then slice_index s.regs group else v)

  -- how many doorway steps of w have read the group since its latest begin; k is the count before the list
  abbrev pub reads_on : ℕ → State At → List Call → ℕ → ℕ
  reads_on w s [] k = k
  reads_on w s (c ∷ cs) k = reads_on w (after door s c) cs (if begins w s c then 0 else (if reads_group w s c then k + 1 else k))

  -- how often b has gone inside since w last ended its doorway; k is the count before the list
  abbrev pub count_on : ℕ → ℕ → State At → List Call → ℕ → ℕ
  count_on w b s [] k = k
  count_on w b s (c ∷ cs) k = count_on w b (after door s c) cs (if ends_doorway w s c then 0 else (if goes_inside b s c then k + 1 else k))

  -- whether b was idle when w last ended its doorway; o if w does not end it in the list
  abbrev pub latest_idle : ℕ → ℕ → State At → List Call → Bool → Bool
  latest_idle w b s [] o = o
  latest_idle w b s (c ∷ cs) o = latest_idle w b (after door s c) cs (if ends_doorway w s c then is_in P.I s b else o)

  -- how often b goes inside in the list before w does, or in the whole list if w does not
  abbrev pub entries_before : ℕ → ℕ → State At → List Call → ℕ
  entries_before w b s [] = 0
  entries_before w b s (c ∷ cs) = if goes_inside w s c then 0 else ((if goes_inside b s c then 1 else 0) + entries_before w b (after door s c) cs)

  -- how often b goes inside before w does, after w last ended its doorway; k if w does not end it in the list
  abbrev pub latest_lost : ℕ → ℕ → State At → List Call → ℕ → ℕ
  latest_lost w b s [] k = k
  latest_lost w b s (c ∷ cs) k = latest_lost w b (after door s c) cs (if ends_doorway w s c then entries_before w b (after door s c) cs else k)

  -- in what follows start is a gate just made, and past the calls since
  -- the bit that w read in its latest doorway
  abbrev pub bit_read : ℕ → State At → List Call → ℕ
  bit_read w start past = latest_bit w start past 0

  -- how often w has read the bit in its doorway since it last began
  abbrev pub reads_in_visit : ℕ → State At → List Call → ℕ
  reads_in_visit w start past = reads_on w start past 0

  -- how often b has gone inside since w last ended its doorway
  abbrev pub entries_since : ℕ → ℕ → State At → List Call → ℕ
  entries_since w b start past = count_on w b start past 0

  -- whether b was idle when w last ended its doorway
  abbrev pub idle_then : ℕ → ℕ → State At → List Call → Bool
  idle_then w b start past = latest_idle w b start past false

  -- how often b went inside while w last waited: from the last step of its doorway to the step by which it went inside, or to now
  abbrev pub lost_to : ℕ → ℕ → State At → List Call → ℕ
  lost_to w b start past = latest_lost w b start past 0

  -- w goes inside at some call of the list
  abbrev pub GoesInside : ℕ → State At → List Call → Type 0
  GoesInside w s [] = ⊥
  GoesInside w s (c ∷ cs) = T (goes_inside w s c) ⊎ GoesInside w (after door s c) cs

  -- how many accepted steps of w the list has
  abbrev pub steps_in : ℕ → State At → List Call → ℕ
  steps_in w s [] = 0
  steps_in w s (c ∷ cs) = (if steps w s c then 1 else 0) + steps_in w (after door s c) cs

  -- no other arm is in its doorway at any accepted step of w in the list
  abbrev pub NoOtherInDoorway : ℕ → State At → List Call → Type 0
  NoOtherInDoorway w s [] = Unit {0}
  NoOtherInDoorway w s (c ∷ cs) =
      (T (steps w s c) → (k : ℕ) → T (is_arm s k) → T (is_in P.D s k) → k ≡ w) × NoOtherInDoorway w (after door s c) cs

  -- w has right of way: every list that has 8 n accepted steps of w takes it inside, whatever other calls the list has,
  -- if no other arm is in its doorway at any of these steps
  abbrev pub RightOfWay : State At → ℕ → Type 0
  RightOfWay s w = (cs : List Call) → steps_in w s cs ≡ 8 * s.n → NoOtherInDoorway w s cs → GoesInside w s cs

  -- b has an accepted step, admit or leave in the list
  abbrev pub Moves : ℕ → State At → List Call → Type 0
  Moves b s [] = ⊥
  Moves b s (c ∷ cs) = T (moves b s c) ⊎ Moves b (after door s c) cs

  -- a round: every arm that is not idle at its start moves in it
  abbrev pub Round : State At → List Call → Type 0
  Round s cs = (b : ℕ) → T (is_arm s b) → T (not (is_in P.I s b)) → Moves b s cs

  -- a list that can be cut into k rounds
  abbrev pub Rounds : ℕ → State At → List Call → Type 0
  Rounds zero s cs = cs ≡ []
  Rounds (suc k) s cs = (first : List Call) × (rest : List Call) × (cs ≡ first ++ rest) × Round s first × Rounds k (run door s first) rest
