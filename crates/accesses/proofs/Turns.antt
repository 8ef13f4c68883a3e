-- What no call alters, a turn does not alter either.
use Rattle.std.proofs.Common.{◌≡◌, ℕ, ◌+◌, add-one, refl, ◌∙◌, arith}
use Rattle.gate_model.specs.Calls.{after, refusal_of}
use Rattle.gate_model.specs.States.{State, phase_at}
use Rattle.gate_model.specs.Table.{Table}
use Rattle.gate_model.specs.declared.call.Call.{Call}
use Rattle.gate_model.specs.declared.call.Call.TheVariants.{Begin, Step, Admit, Leave}
use Rattle.gate_model.specs.declared.phase.Phase.{Phase}
use Rattle.gate_model.specs.declared.phase.Phase.TheVariants as P
use Rattle.gate_model.proofs.Accepted.{unless_both}
use Rattle.gate_model.proofs.Unaltered.{after_n}
use Rattle.accesses.specs.Runs.{arm_of_turn, turned_in, turned, run_of}

module _ {At : Type 0} (door : Table At) where
  in_stays : (f : State At → ℕ) → ((s : State At) (c : Call) → f (after door s c) ≡ f s) → (p : Phase) (s : State At) (i : ℕ) → f (turned_in door p s i) ≡ f s
  in_stays f stays P.I s i = stays s (Begin i)
  in_stays f stays P.D s i = stays s (Step i)
  in_stays f stays P.W s i = stays s (Step i)
  in_stays f stays P.F s i = unless_both (refusal_of door s (Admit i)) _ s (λ t. f t ≡ f s) (λ e. stays (after door s (Admit i)) (Leave s.number i) ∙ stays s (Admit i)) refl
  in_stays f stays P.X s i = stays s (Step i)

  after_number : (s : State At) (c : Call) → (after door s c).number ≡ s.number
  after_number s c = grind arith

  pub turned_n : (s : State At) (i : ℕ) → (turned door s i).n ≡ s.n
  turned_n s i = in_stays (λ s. s.n) (after_n door) (phase_at door s i) s i

  pub turned_number : (s : State At) (i : ℕ) → (turned door s i).number ≡ s.number
  turned_number s i = in_stays (λ s. s.number) after_number (phase_at door s i) s i

  -- one more turn of a run
  pub run_on : (t n i : ℕ) (s now next : State At) → now ≡ run_of door t s → n ≡ s.n → i ≡ arm_of_turn t n → next ≡ turned door now i → next ≡ run_of door (t + 1) s
  run_on t n i s now next before arms arm turn = rw add-one (cc)
