-- What the gate keeps of an arm, and what a step makes of it.
use Rattle.std.specs.Prelude.{ℕ, Bool, false, if◌then◌else◌, [], replicate, Some, None, Option, ◌==◌}
use Rattle.gate_model.specs.Limits.{arm_limit}
use Rattle.gate_model.specs.Table.{Table}
use Rattle.gate_model.specs.declared.arm.Arm.{Arm}
use Rattle.gate_model.specs.declared.phase.Phase.{Phase}
use Rattle.gate_model.specs.declared.phase.Phase.TheVariants as P

-- a side as a number, 0 where it is missing
abbrev pub side_of : Option ℕ → ℕ
side_of (Some s) = s
side_of None = 0

-- whether a side is t
abbrev pub has_side : ℕ → Option ℕ → Bool
has_side t (Some s) = s == t
has_side t None = false

-- the side after a step from phase p to phase q that read v; reads: the step is the doorway's read of the bit.
-- That step gives the side v, the last exit step leaves none, and any other step keeps the side
abbrev pub side_after : Bool → ℕ → Phase → Phase → Option ℕ → Option ℕ
side_after reads v P.D q s = if reads then Some v else s
side_after reads v P.X P.I s = None
side_after reads v p q s = s

module _ {At : Type 0} (door : Table At) where
  -- the record of an arm of a gate just made
  abbrev pub fresh : Arm At
  fresh = record { position = door.idle; side = None; visits = 0; out = false; row = replicate arm_limit 0; notes = replicate arm_limit false }

  -- what is read in place of a record that is not there
  abbrev pub no_arm : Arm At
  no_arm = record { position = door.idle; side = None; visits = 0; out = false; row = []; notes = [] }

  -- the record after a step that read v, in a gate of n arms, but for its row and notes
  abbrev pub advanced : ℕ → ℕ → Arm At → Arm At
  advanced n v a =
      let q = door.next n (side_of a.side) v a.position in
      record a { position = q; side = side_after (door.reads_bit a.position) v (door.phase a.position) (door.phase q) a.side }
