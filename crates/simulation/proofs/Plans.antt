-- A door's plan: where each stance of the machine stands in the door's table.
use Rattle.std.proofs.Common.{◌≡◌, arith, not, ◌+◌, ◌-◌, ◌*◌, ℕ, ◌≤◌, ◌<◌, Bool, false, T, eqb}
use Rattle.gate_model.specs.Registers.{group}
use Rattle.gate_model.specs.Table.{Table}
use Rattle.gate_model.specs.declared.phase.Phase.TheVariants as P
use Rattle.gate_model.proofs.Bools.{same_bit}
use Rattle.machine.specs.Kinds.{Kind, soon}
use Rattle.machine.proofs.Machine.{Stance, idle, at, out, phase, step_arm, visit, begin, admit, leave, may_step}
use Rattle.simulation.proofs.Layouts.{bit_number, side_number, is_d2, is_x2, looks_at, highest, cells, cell, holds, deed, access_for, read_by_deed}

pub record Plan {At : Type 0} (door : Table At) : Type 0 where
  -- the kind of the machine; where a stance stands
  pub kind : Kind
  pub place : Stance → At
  -- the table: phases, the places that the calls name, the doorway's read, the first exit step, the index
  pub phased : (a : Stance) → door.phase (place a) ≡ phase a
  pub at_rest : (x : Bool) → place (idle x) ≡ door.idle
  pub at_entry : (a : Stance) → T (at P.I a) → door.entry ≡ place (visit begin a)
  pub at_pass : (a : Stance) → place a ≡ place (visit admit a)
  pub at_exit : (a : Stance) → T (out a) → door.exit ≡ place (visit leave a)
  pub reads : (a : Stance) → door.reads_bit (place a) ≡ is_d2 a
  pub turned : (a : Stance) → door.turned (place a) ≡ is_x2 a
  pub indexed : (a : Stance) → door.index (place a) ≡ looks_at a
  -- the table: an arm's access is its deed, and leads where the machine goes
  pub accesses : (i : ℕ) (a : Stance) → door.access i (side_number a) (place a) ≡ access_for kind (deed kind a) i
  pub leads : (n : ℕ) (β : Bool) (arms : ℕ → Stance) (a : Stance) → T (may_step a) →
      door.next n (side_number a) (read_by_deed kind β arms (deed kind a)) (place a) ≡ place (step_arm kind n β arms a)
  -- the registers: within the room, and as making writes them
  pub within : (n c k : ℕ) → c < cells kind → 1 ≤ k → k ≤ n → cell kind c k < door.room n
  pub high_enough : highest kind ≤ door.needed
  pub some_room : (n : ℕ) → 1 ≤ door.room n
  pub first_bit : door.first group ≡ 0
  pub first_cells : (c k : ℕ) → c < cells kind → 1 ≤ k → door.first (cell kind c k) ≡ holds kind c (idle false)
  -- the rounds that the door names: enough for its kind, and few
  pub soon_enough : (n : ℕ) → soon kind n ≤ door.rounds n
  pub rounds_few : (n : ℕ) → door.rounds n ≤ 8 * n + 20

-- tests on bits
pub bit_number_same : (x y : Bool) → eqb (bit_number x) (bit_number y) ≡ same_bit x y
bit_number_same b c = grind arith

pub bit_not : (x : Bool) → 1 - bit_number x ≡ bit_number (not x)
bit_not x = grind arith
