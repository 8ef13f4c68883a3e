-- What holds of every gate in hand.
use Rattle.std.specs.Prelude.{◌≡◌, ℕ, ◌≤◌, List, length, slice_index_or}
use Rattle.gate_model.specs.Law.{IsReached}
use Rattle.gate_model.specs.Limits.{arm_limit}
use Rattle.gate_model.specs.Table.{Table}
use Rattle.gate_model.specs.Arms.{no_arm}
use Rattle.gate_model.specs.States.{State}
use Rattle.gate_model.specs.declared.arm.Arm.{Arm}
use Rattle.gate_model.specs.declared.phase.Phase.TheVariants as P

-- no more arms than the limit, as many records as the limit, and a making and a list of calls lead to it
pub record IsGate {At : Type 0} (door : Table At) (s : State At) : Type 0 where
  pub few : s.n ≤ arm_limit
  pub full : length s.arms ≡ arm_limit
  pub reached : IsReached door s

-- the records past the first n are idle
abbrev pub RestIdle : {At : Type 0} → Table At → ℕ → List (Arm At) → Type 0
RestIdle door n arms = (k : ℕ) → n ≤ k → door.phase (slice_index_or arms k (no_arm door)).position ≡ P.I
