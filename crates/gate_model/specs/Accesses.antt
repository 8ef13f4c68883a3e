-- That a step makes the one access of the table, and touches no other register.
use Rattle.std.specs.Prelude.{◌≡◌, ℕ, ◌<◌, ◌≤◌, ◌≢◌, Bool, false, List, T, length, nat_lt, slice_index}
use Rattle.bank.specs.Registers.{can_hold}
use Rattle.gate_model.specs.Table.{Table}
use Rattle.gate_model.specs.Calls.{access_at, after}
use Rattle.gate_model.specs.History.{accepted}
use Rattle.gate_model.specs.Registers.{value_read}
use Rattle.gate_model.specs.Rules.{Always}
use Rattle.gate_model.specs.States.{State, with_table}
use Rattle.gate_model.specs.declared.access.Access.{Access}
use Rattle.gate_model.specs.declared.access.Access.TheVariants.{Nothing, Read, Write}
use Rattle.gate_model.specs.declared.call.Call.TheVariants.{Step as step}

-- whether the bank has the register that an access reads or writes, and takes the value that it writes
abbrev pub can_make : {At : Type 0} → State At → Access → Bool
can_make s Nothing = false
can_make s (Read q) = nat_lt q (length s.regs)
can_make s (Write q v) = can_hold s.high s.regs q v

-- the access is of one of the registers that n arms take; it writes at most needed, which every bank of a gate with arms takes
abbrev pub InRoom : {At : Type 0} → Table At → ℕ → Access → Type 0
InRoom door n Nothing = ⊥
InRoom door n (Read q) = q < door.room n
InRoom door n (Write q v) = (q < door.room n) × (v ≤ door.needed)

-- the door shows that each accepted step makes such an access, whatever was called before
abbrev pub ShowsAccesses : {At : Type 0} → Table At → Type 0
ShowsAccesses door = Always door (λ start past s. (i : ℕ) → T (accepted door s (step i)) → InRoom door s.n (access_at door s i))

-- the access does not write register q
abbrev pub Spares : Access → ℕ → Type 0
Spares (Write r v) q = q ≢ r
Spares x q = Unit {0}

-- of a step of arm i that takes the gate from the state s to t
pub record OneAccess {At : Type 0} (door : Table At) (s : State At) (i : ℕ) (t : State At) : Type 0 where
  -- the registers are as they were, but for the one that its access writes
  pub writes_one : (q : ℕ) → Spares (access_at door s i) q → slice_index t.regs q ≡ slice_index s.regs q
  -- with other registers, but the same value in the one that its access reads, the records after the step are the same
  pub reads_one : (other : List ℕ) → value_read other (access_at door s i) ≡ value_read s.regs (access_at door s i)
      → (after door (with_table other s.arms s) (step i)).arms ≡ t.arms
