-- Each doorway reads the bit exactly once: what a door shows of the accesses of a doorway.
use Rattle.std.specs.Prelude.{◌≡◌, ℕ, Bool, true, false, T}
use Rattle.gate_model.specs.Table.{Table}
use Rattle.gate_model.specs.States.{State, arm_at}
use Rattle.gate_model.specs.Calls.{access_at, after}
use Rattle.gate_model.specs.History.{accepted, is_in, of_group}
use Rattle.gate_model.specs.Meaning.{Stage, coming, read, meaning_of}
use Rattle.gate_model.specs.Rules.{Always}
use Rattle.gate_model.specs.declared.call.Call.TheVariants.{Step as step}
use Rattle.gate_model.specs.declared.phase.Phase.TheVariants as P

-- whether an arm in its doorway gets its side, going from one stage to another
abbrev pub gets_side : Stage → Stage → Bool
gets_side coming (read t) = true
gets_side a b = false

-- of a step of arm i in the state s
pub record ReadsAsTold {At : Type 0} (door : Table At) (s : State At) (i : ℕ) : Type 0 where
  -- its access reads the group exactly where the table says that the doorway reads the bit
  pub as_marked : of_group (access_at door s i) ≡ door.reads_bit (arm_at door s i).position
  -- and this is exactly the step by which the arm gets its side
  pub gives_side : of_group (access_at door s i) ≡ gets_side ((meaning_of door s).arms i) ((meaning_of door (after door s (step i))).arms i)

-- the door shows this of each accepted doorway step, whatever was called before
abbrev pub ShowsReads : {At : Type 0} → Table At → Type 0
ShowsReads door = Always door (λ start past s. (i : ℕ) → T (accepted door s (step i)) → T (is_in door P.D s i) → ReadsAsTold door s i)
