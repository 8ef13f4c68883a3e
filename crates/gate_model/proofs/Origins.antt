-- Calls lead to a gate just made, and to a gate after one more call.
use Rattle.std.proofs.Common.{◌≡◌, ℕ, ◌+◌, ◌<◌, length, get_or, take, List, [], ◌∷◌, ◌++◌, sym, refl, ap, ◌∙◌}
use Rattle.std.proofs.lemmas.List.{take_more}
use Rattle.std.proofs.Math.Logic.{∥∥₁_map}
use Rattle.gate_model.specs.Making.{Making}
use Rattle.gate_model.specs.Table.{Table}
use Rattle.gate_model.specs.Calls.{after, run}
use Rattle.gate_model.specs.Law.{Origin, IsReached}
use Rattle.gate_model.specs.States.{State, made}
use Rattle.gate_model.specs.declared.call.Call.{Call}

module _ {At : Type 0} (door : Table At) where
  pub run_append : (xs ys : List Call) (s : State At) → run door s (xs ++ ys) ≡ run door (run door s xs) ys
  run_append [] ys s = refl
  run_append (c ∷ xs) ys s = run_append xs ys (after door s c)

  pub run_more : (s : State At) (cs : List Call) (i : ℕ) (d : Call) → i < length cs → run door s (take (i + 1) cs) ≡ after door (run door s (take i cs)) (get_or cs i d)
  run_more s cs i d l = ap (run door s) (take_more cs i d l) ∙ run_append (take i cs) (get_or cs i d ∷ []) s

  pub origin_made : (making : Making) (s : State At) → s ≡ made door making → Origin door s
  origin_made making s e = record { making = making; calls = []; leads = sym e }

  pub origin_after : (s : State At) (c : Call) (t : State At) → t ≡ after door s c → Origin door s → Origin door t
  origin_after s c t e p = record {
    making = p.making;
    calls = p.calls ++ c ∷ [];
    leads = run_append p.calls (c ∷ []) (made door p.making) ∙ ap (λ x. after door x c) p.leads ∙ sym e;
  }

  pub reached_made : (making : Making) (s : State At) → s ≡ made door making → IsReached door s
  reached_made making s e = ∣ origin_made making s e ∣₁

  pub reached_after : (s : State At) (c : Call) (t : State At) → t ≡ after door s c → IsReached door s → IsReached door t
  reached_after s c t e reached = ∥∥₁_map reached (origin_after s c t e)
