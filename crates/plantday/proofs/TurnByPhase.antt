-- A turn of an arm that steps, and one more turn of a day.
use Rattle.std.proofs.Common.{◌≡◌, ℕ, ◌+◌, ◌⊎◌, inl, inr, Ok, add-one, arith}
use Rattle.gate_model.specs.Calls.{after}
use Rattle.gate_model.specs.States.{State, arm_at, phase_at}
use Rattle.gate_model.specs.Table.{Table}
use Rattle.gate_model.specs.declared.call.Call.TheVariants.{Step}
use Rattle.gate_model.specs.declared.phase.Phase.{Phase}
use Rattle.gate_model.specs.declared.phase.Phase.TheVariants as P
use Rattle.gate.specs.Answers.{look_answer, step_answer}
use Rattle.gate.specs.declared.gate.View.{View}
use Rattle.plantday.specs.Records.{with_move, noted}
use Rattle.plantday.specs.Turns.{picked, dice_after_pick, Plant, plant, phase_ahead, plant_stepped, turned_in, turned, turns_of}
use Rattle.plantday.specs.declared.record.Record.{Record}

module _ {At : Type 0} (door : Table At) where
  -- what a look tells of an arm
  pub look_arm : (s : State At) (i : ℕ) (view : View) → look_answer door s i ≡ Ok view → (phase_at door s i ≡ view.phase) × ((arm_at door s i).out ≡ view.out)
  look_arm s i view e = (grind arith, grind arith)

  -- the turn of an arm in its doorway, waiting or leaving is a step
  stepping : (k : ℕ) (p : Plant At) (from : Phase) → (from ≡ P.D) ⊎ ((from ≡ P.W) ⊎ (from ≡ P.X)) → turned_in door from k p ≡ plant_stepped door k from p
  stepping k p from h = elim h [ inl e ↦ rw e | inr more ↦ elim more [ inl e ↦ rw e | inr e ↦ rw e ] ]

  ahead : (s : State At) (k : ℕ) (to : Phase) → step_answer door s (k + 1) ≡ Ok to → to ≡ phase_ahead door s k
  ahead s k to e = grind arith

  pub arm_steps : (k dice : ℕ) (s t : State At) (notes : Record) (from to : Phase) (first second : Record) → (from ≡ P.D) ⊎ ((from ≡ P.W) ⊎ (from ≡ P.X)) → phase_at door s (k + 1) ≡ from → step_answer door s (k + 1) ≡ Ok to → t ≡ after door s (Step (k + 1))
      → first ≡ noted door t k from to notes → second ≡ with_move door t k first → plant t dice second ≡ turned door k (plant s dice notes)
  arm_steps k dice s t notes from to first second busy phase answer step note move = rw (phase, stepping k (plant s dice notes) from busy, move, note, ahead s k to answer, step)

  -- one more turn, of the arm that the dice pick
  pub turns_on : (t k dice : ℕ) (start now next : Plant At) → now ≡ turns_of door t start → k ≡ picked now.dice → dice ≡ dice_after_pick now.dice
      → next ≡ turned door k (record now { dice = dice }) → next ≡ turns_of door (t + 1) start
  unfolding turns_of
  turns_on t k dice start now next before arm rolls turn = rw add-one (cc)
