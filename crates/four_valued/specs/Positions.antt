-- The table of positions of the four-valued door: the one access at each, and where the value just read leads.
use Rattle.std.specs.Prelude.{ℕ, ◌+◌, ◌-◌, ◌*◌, Bool, true, false, if◌then◌else◌, ◌==◌, nat_lt}
use Rattle.gate_model.specs.Registers.{group}
use Rattle.gate_model.specs.Table.{Table}
use Rattle.gate_model.specs.declared.access.Access.{Access}
use Rattle.gate_model.specs.declared.access.Access.TheVariants as A
use Rattle.gate_model.specs.declared.phase.Phase.{Phase}
use Rattle.gate_model.specs.declared.phase.Phase.TheVariants as P
use Rattle.four_valued.specs.declared.position.Doorway.TheVariants.{Choose, Read, Tell}
use Rattle.four_valued.specs.declared.position.Place.{Place}
use Rattle.four_valued.specs.declared.position.Place.TheVariants as W
use Rattle.four_valued.specs.declared.position.Exit.TheVariants.{Turn, Rest}
use Rattle.four_valued.specs.declared.position.FourValued.{FourValued}
use Rattle.four_valued.specs.declared.position.FourValued.TheVariants.{Idle, Doorway, Waiting, Inside, Leaving}

-- the phase of a position
abbrev pub phase_of : FourValued → Phase
phase_of Idle = P.I
phase_of (Doorway d) = P.D
phase_of (Waiting j p) = P.W
phase_of Inside = P.F
phase_of (Leaving x) = P.X

-- whether the access is the doorway's read of the bit: at Read
abbrev pub reads : FourValued → Bool
reads (Doorway Read) = true
reads p = false

-- whether an arm has made its first exit step: at Rest
abbrev pub is_turned : FourValued → Bool
is_turned (Leaving Rest) = true
is_turned p = false

-- the arm that a waiting arm looks at, else 0
abbrev pub index_of : FourValued → ℕ
index_of (Waiting j p) = j
index_of p = 0

-- the state of arm i is the value of register i: its side, or choosing, or idle
abbrev pub choosing : ℕ
choosing = 2

abbrev pub idle : ℕ
idle = 3

-- the register that a waiting arm reads, looking at arm j
abbrev pub read_by : ℕ → Place → ℕ
read_by j W.Group = group
read_by j W.Choosing = j
read_by j W.Side = j
read_by j W.SideAgain = j
read_by j W.GroupAgain = group

-- the one access of arm i, with its side as a number, at a position
abbrev pub access_of : ℕ → ℕ → FourValued → Access
access_of i side (Doorway Choose) = A.Write i choosing
access_of i side (Doorway Read) = A.Read group
access_of i side (Doorway Tell) = A.Write i side
access_of i side (Waiting j p) = A.Read (read_by j p)
access_of i side (Leaving Turn) = A.Write group (1 - side)
access_of i side (Leaving Rest) = A.Write i idle
access_of i side p = A.Nothing

-- next: the group at j + 1, or inside after the last arm
abbrev pub onward : ℕ → ℕ → FourValued
onward n j = if nat_lt j n then Waiting (j + 1) W.Group else Inside

-- the next position of a waiting arm that has read v, in a gate of n arms
abbrev pub next_place : ℕ → ℕ → ℕ → ℕ → Place → FourValued
next_place n side v j W.Group = if v == side then Waiting j W.Choosing else Inside
next_place n side v j W.Choosing = if v == choosing then Waiting j W.Choosing else Waiting j W.Side
next_place n side v j W.Side = if v == (1 - side) then Waiting j W.SideAgain else onward n j
next_place n side v j W.SideAgain = if v == (1 - side) then Waiting j W.GroupAgain else onward n j
next_place n side v j W.GroupAgain = if v == side then Waiting j W.SideAgain else onward n j

-- the next position of an arm that has read v, in a gate of n arms
abbrev pub next_of : ℕ → ℕ → ℕ → FourValued → FourValued
next_of n side v (Doorway Choose) = Doorway Read
next_of n side v (Doorway Read) = Doorway Tell
next_of n side v (Doorway Tell) = Waiting 1 W.Group
next_of n side v (Waiting j p) = next_place n side v j p
next_of n side v (Leaving Turn) = Leaving Rest
next_of n side v (Leaving Rest) = Idle
next_of n side v p = p

-- the door: n + 1 registers for n arms, none above 3; at first the group is 0 and each state says idle
abbrev pub four_valued : Table FourValued
four_valued = record {
  idle = Idle;
  entry = Doorway Choose;
  exit = Leaving Turn;
  phase = phase_of;
  reads_bit = reads;
  turned = is_turned;
  index = index_of;
  access = access_of;
  next = next_of;
  needed = idle;
  room = λ n. n + 1;
  first = λ q. if q == group then 0 else idle;
  rounds = λ n. 6 * n + 16;
}
