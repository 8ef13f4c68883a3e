-- What the turns of a run do to a gate.
use Rattle.std.specs.Prelude.{ℕ, zero, suc, ◌+◌, ◌*◌, ◌/◌, ◌%◌, ◌^◌}
use Rattle.gate_model.specs.Limits.{arm_limit}
use Rattle.gate_model.specs.Calls.{after, left_at_once}
use Rattle.gate_model.specs.States.{State, phase_at}
use Rattle.gate_model.specs.Table.{Table}
use Rattle.gate_model.specs.declared.call.Call.TheVariants.{Begin as begin, Step as step}
use Rattle.gate_model.specs.declared.phase.Phase.{Phase}
use Rattle.gate_model.specs.declared.phase.Phase.TheVariants as P

-- the registers of the most arms at the three-bit door; the four-valued one needs fewer
abbrev pub register_count : ℕ
register_count = 3 * arm_limit + 1

-- the arm of a turn, of n arms: by the highest 31 bits of a product of 64 bits
abbrev pub arm_of_turn : ℕ → ℕ → ℕ
arm_of_turn turn n = ((turn * 0x9e3779b97f4a7c15) % 2 ^ 64 / 2 ^ 33) % n + 1

module _ {At : Type 0} (door : Table At) where
  -- arm i is admitted and leaves, where it may be admitted
  abbrev pub visited : State At → ℕ → State At
  visited s i = left_at_once door s i

  -- arm i does what this phase asks for
  abbrev pub turned_in : Phase → State At → ℕ → State At
  turned_in P.I s i = after door s (begin i)
  turned_in P.D s i = after door s (step i)
  turned_in P.W s i = after door s (step i)
  turned_in P.F s i = visited s i
  turned_in P.X s i = after door s (step i)

  abbrev pub turned : State At → ℕ → State At
  turned s i = turned_in (phase_at door s i) s i

  -- the first turns of a run
  abbrev pub run_of : ℕ → State At → State At
  run_of zero s = s
  run_of (suc t) s = turned (run_of t s) (arm_of_turn t s.n)
