-- What the eight calls of a list answer, and that two gates give equal answers for ever.
use Rattle.std.specs.Prelude.{◌≡◌, ℕ, Bool, false, List, [], ◌∷◌, Result}
use Rattle.gate_model.specs.Table.{Table}
use Rattle.gate_model.specs.Calls.{refusal_of, answered, knows, after, run, way_answer}
use Rattle.gate_model.specs.SameGates.{SameGates}
use Rattle.gate_model.specs.States.{State, bit_of}
use Rattle.gate_model.specs.declared.call.Call.{Call}
use Rattle.gate_model.specs.declared.call.Call.TheVariants.{Begin as begin, Step as step, Admit as admit, Confirm as confirm, Leave as leave, Look as look, Tally as tally, Way as way}
use Rattle.gate_model.specs.declared.phase.Phase.{Phase}
use Rattle.gate_model.specs.declared.phase.Phase.TheVariants as P
use Rattle.gate_model.specs.declared.refusal.Refusal.{Refusal}
use Rattle.gate.specs.Answers.{step_answer, admit_answer, leave_answer, let_go_answer, phase_answer, look_answer, tally_answer, most_answer}
use Rattle.gate.specs.declared.gate.Tally.{Tally}
use Rattle.gate.specs.declared.gate.View.{View}
use Rattle.gate.specs.declared.pass.HandedBack.{HandedBack}
use Rattle.gate.specs.declared.pass.Pass.{Pass}

-- the whole answer of one of the eight calls
pub data Answer : Type 0 where
  of_begin : Result Phase Refusal → Answer
  of_step : Result Phase Refusal → Answer
  of_admit : Result Pass Refusal → Answer
  of_confirm : Pass × Bool → Answer
  of_leave : Result Phase HandedBack → Answer
  of_look : Result View Refusal → Answer
  of_tally : Result Tally Refusal → Answer
  of_way : Result Bool Refusal → Answer

-- the pass that a call names, unspent
abbrev pub named : ℕ → ℕ → Pass
named gate i = record { gate = gate; arm = i; spent = false }

module _ {At : Type 0} (door : Table At) where
  -- what a call answers, in the words of its contract
  abbrev pub answer_to : State At → Call → Answer
  answer_to s (begin i) = of_begin (answered (refusal_of door s (begin i)) P.D)
  answer_to s (step i) = of_step (step_answer door s i)
  answer_to s (admit i) = of_admit (admit_answer door s i)
  answer_to s (confirm gate i) = of_confirm (named gate i, knows door s gate i)
  answer_to s (leave gate i) = of_leave (leave_answer door s (named gate i))
  answer_to s (look i) = of_look (look_answer door s i)
  answer_to s (tally w b) = of_tally (tally_answer door s w b)
  answer_to s (way i) = of_way (way_answer door s i)

  -- the answers to a list of calls, made one after another
  abbrev pub answers_to : State At → List Call → List Answer
  answers_to s [] = []
  answers_to s (c ∷ cs) = answer_to s c ∷ answers_to (after door s c) cs

  -- what the calls that no list names answer of two gates is equal; into_bank is left out, which answers the bank
  pub record ToldAlike (s t : State At) : Type 0 where
    pub arm_count : s.n ≡ t.n
    pub bit : bit_of s ≡ bit_of t
    pub phase : (i : ℕ) → phase_answer door s i ≡ phase_answer door t i
    pub most_passed : (i : ℕ) → most_answer door s i ≡ most_answer door t i
    pub let_go : (i : ℕ) → let_go_answer door s i ≡ let_go_answer door t i

  -- of a list of calls made alike on both: the answers are equal, and after it the gates are the same, and what the other calls
  -- answer is equal
  pub record GoAlike (s t : State At) (calls : List Call) : Type 0 where
    pub answers : answers_to s calls ≡ answers_to t calls
    pub same : SameGates door (run door s calls) (run door t calls)
    pub told : ToldAlike (run door s calls) (run door t calls)

  -- whatever is called from now on, alike on both, the gates go alike
  abbrev pub StaySame : State At → State At → Type 0
  StaySame s t = (calls : List Call) → GoAlike s t calls
