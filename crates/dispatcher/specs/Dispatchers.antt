-- A dispatcher, and what holds of every dispatcher in hand.
use Rattle.std.specs.Prelude.{◌≡◌, ℕ, ◌≤◌, false}
use Rattle.gate_model.specs.Law.{IsReached}
use Rattle.gate_model.specs.Making.{Making}
use Rattle.gate_model.specs.States.{State, made, arm_at}
use Rattle.gate_model.specs.Table.{Table}

-- gate: the state of its gate; last: the arm that it served last, 0 at first
pub record Dispatch (At : Type 0) : Type 0 where
  pub gate : State At
  pub last : ℕ

module _ {At : Type 0} (door : Table At) where
  -- a dispatcher just made
  abbrev pub started : Making → Dispatch At
  started making = record { gate = made door making; last = 0 }

  -- no pass is out
  abbrev pub NoPassOut : State At → Type 0
  NoPassOut s = (i : ℕ) → (arm_at door s i).out ≡ false

-- it served one of its arms last or none yet, no pass is out, and a making and a list of calls lead to its gate
pub record IsDispatcher {At : Type 0} (door : Table At) (d : Dispatch At) : Type 0 where
  pub within : d.last ≤ d.gate.n
  pub spent : NoPassOut door d.gate
  pub reached : IsReached door d.gate
