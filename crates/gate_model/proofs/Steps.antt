-- A step put together from what its parts did.
use Rattle.std.proofs.Common.{◌≡◌, ℕ, ◌+◌, ◌-◌, Bool, cond, List, set, None, sym, ap, ◌∙◌}
use Rattle.bank.specs.Lent.{Lent}
use Rattle.gate_model.specs.Registers.{regs_after, memory_after, turns_bit, value_read}
use Rattle.gate_model.specs.Table.{Table}
use Rattle.gate_model.specs.Arms.{side_of, advanced}
use Rattle.gate_model.specs.Tallies.{tallied}
use Rattle.gate_model.specs.States.{State, arm_at}
use Rattle.gate_model.specs.Calls.{refusal_of, stepped, after, unless}
use Rattle.gate_model.specs.declared.access.Access.{Access}
use Rattle.gate_model.specs.declared.arm.Arm.{Arm}
use Rattle.gate_model.specs.declared.call.Call.TheVariants.{Step}
use Rattle.gate_model.specs.declared.phase.Phase.{Phase}

module _ {At : Type 0} (door : Table At) where
  pub put_together : (s : State At) (i value : ℕ) (r r' : Arm At) (from to : Phase) (access : Access) (memory : Lent) (regs : List ℕ) (turned : Bool) (turn : ℕ) (arms : List (Arm At))
      → r ≡ arm_at door s i
      → from ≡ door.phase r.position
      → access ≡ door.access i (side_of r.side) r.position
      → value ≡ value_read s.regs access
      → memory ≡ memory_after s.memory access
      → regs ≡ regs_after s.high s.regs access
      → turned ≡ turns_bit s.high s.regs access
      → turn ≡ cond turned 1 0
      → r' ≡ advanced door s.n value r
      → to ≡ door.phase r'.position
      → arms ≡ tallied door (i - 1) from to (set s.arms (i - 1) r')
      → record s { memory = memory; regs = regs; arms = arms; turns = s.turns + turn } ≡ stepped door i s
  put_together s i value r r' from to access memory regs turned turn arms er ef ea ev el eg eo ek er' et em = cc

  pub step_after : (s t : State At) (i : ℕ) → refusal_of door s (Step i) ≡ None → t ≡ stepped door i s → t ≡ after door s (Step i)
  step_after s t i may e = e ∙ ap (λ r. unless r (stepped door i s) s) (sym may)
