-- What a day of recorded turns keeps of the pass in hand.
use Rattle.std.specs.Prelude.{◌≡◌, true, Option, IfSome}
use Rattle.gate.specs.Passes.{passes_out}
use Rattle.gate.specs.declared.pass.Pass.{Pass}
use Rattle.gate_model.specs.States.{State}
use Rattle.gate_model.specs.Table.{Table}

module _ {At : Type 0} (door : Table At) where
  -- a pass in hand, if there is one, is out at the gate
  abbrev pub IsOut : State At → Option Pass → Type 0
  IsOut s held = IfSome held (λ pass. passes_out door s pass.gate pass.arm ≡ true)
