-- How often the bit turned, as a list of calls tells it.
use Rattle.std.specs.Prelude.{◌≡◌, ℕ, ◌+◌, ◌*◌, ◌≤◌, Bool, if◌then◌else◌, not, ◌&&◌, T, List, [], ◌∷◌, ◌==◌, slice_index}
use Rattle.gate_model.specs.Limits.{visit_limit}
use Rattle.gate_model.specs.Registers.{group}
use Rattle.gate_model.specs.Making.{Making}
use Rattle.gate_model.specs.Table.{Table}
use Rattle.gate_model.specs.States.{State, made, is_arm, arm_at}
use Rattle.gate_model.specs.Calls.{after, run}
use Rattle.gate_model.specs.History.{step_of}
use Rattle.gate_model.specs.declared.call.Call.{Call}

module _ {At : Type 0} (door : Table At) where
  -- whether a call changes register 0
  abbrev pub turns : State At → Call → Bool
  turns s c = not (slice_index (after door s c).regs group == slice_index s.regs group)

  -- how many calls of the list change register 0
  abbrev pub turns_in : State At → List Call → ℕ
  turns_in s [] = 0
  turns_in s (c ∷ cs) = (if turns s c then 1 else 0) + turns_in (after door s c) cs

  -- how many calls of the list change register 0 and are steps of arm b
  abbrev pub turns_by : ℕ → State At → List Call → ℕ
  turns_by b s [] = 0
  turns_by b s (c ∷ cs) = (if turns s c && step_of b c then 1 else 0) + turns_by b (after door s c) cs

-- the turns of a gate in the state s; start is its state when it was just made, and past the calls since
pub record TurnsTold {At : Type 0} (door : Table At) (start : State At) (past : List Call) (s : State At) : Type 0 where
  -- they are the calls that changed register 0
  pub count : s.turns ≡ turns_in door start past
  -- an arm turned the bit at most once a visit
  pub once : (b : ℕ) → T (is_arm s b) → turns_by door b start past ≤ (arm_at door s b).visits
  -- so they are no more than all visits that the arms may have
  pub few : s.turns ≤ s.n * visit_limit

-- the turns of a gate in this state, however it was made and whatever was called
abbrev pub TurnsLaw : {At : Type 0} → Table At → State At → Type 0
TurnsLaw {At} door s = (making : Making) (past : List Call) →
    let start : State At = made door making in
    run door start past ≡ s → TurnsTold door start past s
