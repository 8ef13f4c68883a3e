-- What an access reads, what it leaves in the registers, and whether it turns the bit.
use Rattle.std.specs.Prelude.{ℕ, Bool, false, not, ◌&&◌, List, Some, None, Option, ◌==◌, slice_index}
use Rattle.bank.specs.Lent.{Lent, touched}
use Rattle.bank.specs.Registers.{replaced, written}
use Rattle.gate_model.specs.declared.access.Access.{Access}
use Rattle.gate_model.specs.declared.access.Access.TheVariants.{Read, Write}

-- the register of the group
abbrev pub group : ℕ
group = 0

-- what an access reads, 0 where it reads nothing or the bank has no such register
abbrev pub value_read : List ℕ → Access → ℕ
value_read regs (Read q) = slice_index regs q
value_read regs x = 0

-- the registers after an access
abbrev pub regs_after : ℕ → List ℕ → Access → List ℕ
regs_after high regs (Write q v) = written high regs q v
regs_after high regs x = regs

-- the memory of the bank after an access: a write is asked of the bank once, and a read asks for none
abbrev pub memory_after : Lent → Access → Lent
memory_after memory (Write q v) = touched memory q v
memory_after memory x = memory

-- whether a write of v changed the value; what it replaced is given, none where the bank refused it
abbrev pub changed : ℕ → Option ℕ → Bool
changed v (Some former) = not (former == v)
changed v None = false

-- whether an access turns the bit: a write to register 0 that is accepted and changes its value
abbrev pub turns_bit : ℕ → List ℕ → Access → Bool
turns_bit high regs (Write q v) = q == group && changed v (replaced high regs q v)
turns_bit high regs x = false
