-- What a gate means, whatever its door: the bit, each arm's phase and side, and whether a leaving arm has made its first exit step.
use Rattle.std.specs.Prelude.{ℕ, Bool, true, false, if◌then◌else◌, not, Some, None, Option, ◌==◌}
use Rattle.gate_model.specs.Phases.{same_phase}
use Rattle.gate_model.specs.Table.{Table}
use Rattle.gate_model.specs.Arms.{side_of}
use Rattle.gate_model.specs.States.{State, is_arm, arm_at, phase_at, bit_of}
use Rattle.gate_model.specs.declared.call.Call.{Call}
use Rattle.gate_model.specs.declared.call.Call.TheVariants.{Begin as begin, Step as step, Admit as admit, Confirm as confirm, Leave as leave, Look as look, Tally as tally, Way as way}
use Rattle.gate_model.specs.declared.phase.Phase.{Phase}
use Rattle.gate_model.specs.declared.phase.Phase.TheVariants as P

-- whether two bits are the same
abbrev pub same_bit : Bool → Bool → Bool
same_bit true b = b
same_bit false b = not b

-- the stage of an arm: resting, in I; coming, in D, its side missing; read, in D, with a side; waiting, in W; inside, in F;
-- leaving, in X, before its first exit step; turned, in X, after it
pub data Stage : Type 0 where
  resting coming : Stage
  read waiting inside leaving turned : Bool → Stage

-- whether an arm at a stage has side t
abbrev pub has : Bool → Stage → Bool
has t resting = false
has t coming = false
has t (read s) = same_bit t s
has t (waiting s) = same_bit t s
has t (inside s) = same_bit t s
has t (leaving s) = same_bit t s
has t (turned s) = same_bit t s

-- the phase of a stage
abbrev pub phase : Stage → Phase
phase resting = P.I
phase coming = P.D
phase (read s) = P.D
phase (waiting s) = P.W
phase (inside s) = P.F
phase (leaving s) = P.X
phase (turned s) = P.X

-- whether a stage is in phase p
abbrev pub at : Phase → Stage → Bool
at p a = same_phase (phase a) p

-- the bit, and the stage of each arm, by its number
pub record Meaning : Type 0 where
  pub bit : Bool
  pub arms : ℕ → Stage

-- a bit or a side that is a number, as a truth value
abbrev pub as_bit : ℕ → Bool
as_bit v = v == 1

-- the stage of an arm in its doorway, by its side
abbrev pub door_stage : Option ℕ → Stage
door_stage None = coming
door_stage (Some v) = read (as_bit v)

-- the stage of a leaving arm with side t, by whether it has made its first exit step
abbrev pub exit_stage : Bool → Bool → Stage
exit_stage false t = leaving t
exit_stage true t = turned t

-- the stage of an arm of a gate, by its phase, whether it has made its first exit step, and its side
abbrev pub stage_of : Phase → Bool → Option ℕ → Stage
stage_of P.I gone o = resting
stage_of P.D gone o = door_stage o
stage_of P.W gone o = waiting (as_bit (side_of o))
stage_of P.F gone o = inside (as_bit (side_of o))
stage_of P.X gone o = exit_stage gone (as_bit (side_of o))

-- the arm that a call names; of a tally the one whose row is read
abbrev pub arm_of : Call → ℕ
arm_of (begin i) = i
arm_of (step i) = i
arm_of (admit i) = i
arm_of (confirm g i) = i
arm_of (leave g i) = i
arm_of (look i) = i
arm_of (tally i k) = i
arm_of (way i) = i

-- what a state of a gate means
module _ {At : Type 0} (door : Table At) where
  abbrev pub meaning_of : State At → Meaning
  meaning_of s = record { bit = as_bit (bit_of s); arms = λ k. if is_arm s k then stage_of (phase_at door s k) (door.turned (arm_at door s k).position) (arm_at door s k).side else resting }
