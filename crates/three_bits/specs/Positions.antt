-- The table of positions of the three-bit door: the one access at each, and where the value just read leads.
use Rattle.std.specs.Prelude.{ℕ, ◌+◌, ◌-◌, ◌*◌, Bool, true, false, if◌then◌else◌, ◌==◌, nat_lt}
use Rattle.gate_model.specs.Registers.{group}
use Rattle.gate_model.specs.Table.{Table}
use Rattle.gate_model.specs.declared.access.Access.{Access}
use Rattle.gate_model.specs.declared.access.Access.TheVariants.{Nothing, Read, Write}
use Rattle.gate_model.specs.declared.phase.Phase.{Phase}
use Rattle.gate_model.specs.declared.phase.Phase.TheVariants as P
use Rattle.three_bits.specs.declared.position.Doorway.TheVariants.{D1, D2, D3, D4, D5}
use Rattle.three_bits.specs.declared.position.Place.{Place}
use Rattle.three_bits.specs.declared.position.Place.TheVariants.{W1, W2, W3, W4, W5, W6}
use Rattle.three_bits.specs.declared.position.Exit.TheVariants.{X1, X2}
use Rattle.three_bits.specs.declared.position.ThreeBits.{ThreeBits}
use Rattle.three_bits.specs.declared.position.ThreeBits.TheVariants.{Idle, Doorway, Waiting, Inside, Leaving}

-- the phase of a position
abbrev pub phase_of : ThreeBits → Phase
phase_of Idle = P.I
phase_of (Doorway d) = P.D
phase_of (Waiting j p) = P.W
phase_of Inside = P.F
phase_of (Leaving x) = P.X

-- whether the access is the doorway's read of the bit: at D2
abbrev pub reads : ThreeBits → Bool
reads (Doorway D2) = true
reads p = false

-- whether an arm has made its first exit step: at X2
abbrev pub is_turned : ThreeBits → Bool
is_turned (Leaving X2) = true
is_turned p = false

-- the arm that a waiting arm looks at, else 0
abbrev pub index_of : ThreeBits → ℕ
index_of (Waiting j p) = j
index_of p = 0

-- the three registers of arm i
abbrev pub choosing_of : ℕ → ℕ
choosing_of i = 3 * i - 2

abbrev pub mygroup_of : ℕ → ℕ
mygroup_of i = 3 * i - 1

abbrev pub flag_of : ℕ → ℕ
flag_of i = 3 * i

-- the register that a waiting arm reads, looking at arm j
abbrev pub read_by : ℕ → Place → ℕ
read_by j W1 = group
read_by j W2 = choosing_of j
read_by j W3 = mygroup_of j
read_by j W4 = flag_of j
read_by j W5 = group
read_by j W6 = mygroup_of j

-- the one access of arm i, with its side as a number, at a position
abbrev pub access_of : ℕ → ℕ → ThreeBits → Access
access_of i side (Doorway D1) = Write (choosing_of i) 1
access_of i side (Doorway D2) = Read group
access_of i side (Doorway D3) = Write (mygroup_of i) side
access_of i side (Doorway D4) = Write (flag_of i) 1
access_of i side (Doorway D5) = Write (choosing_of i) 0
access_of i side (Waiting j p) = Read (read_by j p)
access_of i side (Leaving X1) = Write group (1 - side)
access_of i side (Leaving X2) = Write (flag_of i) 0
access_of i side p = Nothing

-- next: W1 at j + 1, or inside after the last arm
abbrev pub onward : ℕ → ℕ → ThreeBits
onward n j = if nat_lt j n then Waiting (j + 1) W1 else Inside

-- the next position of a waiting arm that has read v, in a gate of n arms
abbrev pub next_place : ℕ → ℕ → ℕ → ℕ → Place → ThreeBits
next_place n side v j W1 = if v == side then Waiting j W2 else Inside
next_place n side v j W2 = if v == 0 then Waiting j W3 else Waiting j W2
next_place n side v j W3 = if v == side then onward n j else Waiting j W4
next_place n side v j W4 = if v == 0 then onward n j else Waiting j W5
next_place n side v j W5 = if v == side then Waiting j W6 else onward n j
next_place n side v j W6 = if v == side then onward n j else Waiting j W4

-- the next position of an arm that has read v, in a gate of n arms
abbrev pub next_of : ℕ → ℕ → ℕ → ThreeBits → ThreeBits
next_of n side v (Doorway D1) = Doorway D2
next_of n side v (Doorway D2) = Doorway D3
next_of n side v (Doorway D3) = Doorway D4
next_of n side v (Doorway D4) = Doorway D5
next_of n side v (Doorway D5) = Waiting 1 W1
next_of n side v (Waiting j p) = next_place n side v j p
next_of n side v (Leaving X1) = Leaving X2
next_of n side v (Leaving X2) = Idle
next_of n side v p = p

-- the door: 3 n + 1 registers for n arms, none above 1, all 0 at first
abbrev pub three_bits : Table ThreeBits
three_bits = record {
  idle = Idle;
  entry = Doorway D1;
  exit = Leaving X1;
  phase = phase_of;
  reads_bit = reads;
  turned = is_turned;
  index = index_of;
  access = access_of;
  next = next_of;
  needed = 1;
  room = λ n. 3 * n + 1;
  first = λ q. 0;
  rounds = λ n. 8 * n + 20;
}
