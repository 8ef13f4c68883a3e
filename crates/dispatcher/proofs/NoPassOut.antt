-- Between two moves no pass is out.
use Rattle.std.proofs.Common.{◌≡◌, ℕ, T, List, [], ◌∷◌, None, Some, Option, subst, sym, arith}
use Rattle.gate_model.specs.Making.{Making}
use Rattle.gate_model.specs.Calls.{refusal_of, run}
use Rattle.gate_model.specs.States.{State, made}
use Rattle.gate_model.specs.Table.{Table}
use Rattle.gate_model.specs.declared.call.Call.TheVariants.{Admit}
use Rattle.gate_model.proofs.Bools.{by}
use Rattle.gate_model.proofs.Unmarked.{unmarked_begun, unmarked_stepped, unmarked_left, unmarked_made}
use Rattle.dispatcher.specs.Dispatchers.{NoPassOut}
use Rattle.dispatcher.specs.Moves.{opening, is_inside, serving_any}

module _ {At : Type 0} (door : Table At) where
  admitted : (s : State At) (i : ℕ) → T (is_inside door s i) → NoPassOut door s → refusal_of door s (Admit i) ≡ None
  admitted s i h u = let x = u i in grind arith

  pub opening_spent : (s : State At) (asked : List ℕ) → NoPassOut door s → NoPassOut door (run door s (opening asked))
  opening_spent s [] u = u
  opening_spent s (i ∷ more) u = unmarked_begun door s i u

  pub serving_spent : (s : State At) (r : Option ℕ) → NoPassOut door s → NoPassOut door (run door s (serving_any door s r))
  serving_spent s None u = u
  serving_spent s (Some i) u = by (λ cs. NoPassOut door (run door s cs)) (is_inside door s i) _ _
      (λ y. unmarked_left door s i (admitted s i y u) u) (λ _. unmarked_stepped door s i u)

  pub started_spent : (making : Making) (s : State At) → s ≡ made door making → NoPassOut door s
  started_spent making s e = subst (NoPassOut door) (sym e) (unmarked_made door making)
