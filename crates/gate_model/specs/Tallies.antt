-- What each arm lost while it waited: how often each other arm went inside meanwhile, and which arms were idle when its wait began.
use Rattle.std.specs.Prelude.{ℕ, ◌+◌, min, Bool, if◌then◌else◌, List, map, replicate, slice_index, slice_index_or, slice_set}
use Rattle.gate_model.specs.Limits.{arm_limit, tally_limit}
use Rattle.gate_model.specs.Phases.{same_phase}
use Rattle.gate_model.specs.Table.{Table}
use Rattle.gate_model.specs.Arms.{no_arm}
use Rattle.gate_model.specs.declared.arm.Arm.{Arm}
use Rattle.gate_model.specs.declared.phase.Phase.{Phase}
use Rattle.gate_model.specs.declared.phase.Phase.TheVariants as P

-- the record a with row r and notes t
abbrev pub with_row : {At : Type 0} → List ℕ → List Bool → Arm At → Arm At
with_row r t a = record a { row = r; notes = t }

module _ {At : Type 0} (door : Table At) where
  abbrev pub is_idle : Arm At → Bool
  is_idle a = same_phase (door.phase a.position) P.I

  abbrev pub is_waiting : Arm At → Bool
  is_waiting a = same_phase (door.phase a.position) P.W

  -- the record a after the arm at index b went inside: if the arm of a waits, its row counts 1 more at b, up to the limit
  abbrev pub counted : ℕ → Arm At → Arm At
  counted b a = if is_waiting a then with_row (slice_set a.row b (min (slice_index a.row b + 1) tally_limit)) a.notes a else a

  -- the records after the arm at index k ended its doorway: its row is 0, and its notes tell which arms are idle
  abbrev pub row_started : ℕ → List (Arm At) → List (Arm At)
  row_started k arms = slice_set arms k (with_row (replicate arm_limit 0) (map is_idle arms) (slice_index_or arms k (no_arm door)))

  -- the records after a step by which the arm at index k went from phase p to phase q: at its last doorway step its row starts,
  -- at the step by which it goes inside each waiting arm counts it, and any other step leaves all rows and notes
  abbrev pub tallied : ℕ → Phase → Phase → List (Arm At) → List (Arm At)
  tallied k P.D P.W arms = row_started k arms
  tallied k P.W P.F arms = map (counted k) arms
  tallied k p q arms = arms
