-- k moves and one more are k + 1 moves.
use Rattle.std.proofs.lemmas.List.{length_push}
use Rattle.std.proofs.Common.{◌≡◌, ℕ, ◌+◌, List, [], ◌∷◌, ◌++◌, length, sym, refl, ap, ◌∙◌}
use Rattle.gate_model.specs.Table.{Table}
use Rattle.dispatcher.specs.Dispatchers.{Dispatch}
use Rattle.dispatcher.specs.Law.{after_moves}
use Rattle.dispatcher.specs.Moves.{moved}

module _ {At : Type 0} (door : Table At) where
  after_moves_append : (xs ys : List (List ℕ)) (d : Dispatch At) → after_moves door d (xs ++ ys) ≡ after_moves door (after_moves door d xs) ys
  after_moves_append [] ys d = refl
  after_moves_append (asked ∷ xs) ys d = after_moves_append xs ys (moved door d asked)

  -- k moves lead from d to e, and one more that gets this ring leads to f
  pub one_move : {k : ℕ} {d e f : Dispatch At} (asked : List ℕ) → (rings : List (List ℕ)) × (length rings ≡ k) × (e ≡ after_moves door d rings) → f ≡ moved door e asked
      → (rings : List (List ℕ)) × (length rings ≡ k + 1) × (f ≡ after_moves door d rings)
  one_move {k} {d} asked a is = (a.0 ++ asked ∷ [], length_push a.0 asked ∙ ap (λ n. n + 1) a.1, is ∙ ap (λ x. moved door x asked) a.2 ∙ sym (after_moves_append a.0 (asked ∷ []) d))
