-- The step by which an arm goes inside is the last call of its move, so the arm is inside after that move.
use Rattle.std.proofs.Common.{ℕ, T, ◌⊎◌, inl, inr, List, [], ◌∷◌, ◌++◌, Some, None, Option, refl, ap, subst, sym, arith}
use Rattle.gate_model.specs.Calls.{after, run}
use Rattle.gate_model.specs.History.{step_of, is_in, goes_inside, GoesInside}
use Rattle.gate_model.specs.States.{State}
use Rattle.gate_model.specs.Table.{Table}
use Rattle.gate_model.specs.declared.call.Call.{Call}
use Rattle.gate_model.specs.declared.call.Call.TheVariants.{Begin, Step, Admit, Leave}
use Rattle.gate_model.specs.declared.phase.Phase.TheVariants as P
use Rattle.gate_model.proofs.Bools.{by}
use Rattle.gate_model.proofs.Origins.{run_append}
use Rattle.dispatcher.specs.Dispatchers.{Dispatch}
use Rattle.dispatcher.specs.Moves.{opening, is_inside, serving_any, opened, in_line, calls_of_move, moved}
use Rattle.dispatcher.specs.Law.{calls_of_moves, SeenInside}

module _ {At : Type 0} (door : Table At) (w : ℕ) where
  -- only a step takes an arm inside
  only_step : (s : State At) (c : Call) → T (goes_inside door w s c) → T (step_of w c) × T (is_in door P.F (after door s c) w)
  only_step s c h = grind arith

  inside_append : (xs ys : List Call) (s : State At) → GoesInside door w s (xs ++ ys) → GoesInside door w s xs ⊎ GoesInside door w (run door s xs) ys
  inside_append [] ys s h = inr h
  inside_append (c ∷ xs) ys s h = elim h [
    | inl now ↦ inl (inl now)
    | inr later ↦ elim (inside_append xs ys (after door s c) later) [ inl x ↦ inl (inr x) | inr y ↦ inr y ]
  ]

  opening_enters_not : (s : State At) (asked : List ℕ) → GoesInside door w s (opening asked) → ⊥
  opening_enters_not s [] h = elim h [ ]
  opening_enters_not s (i ∷ more) h = elim h [ inl now ↦ (only_step s (Begin i) now).0 | inr later ↦ elim later [ ] ]

  serving_enters : (s : State At) (served : Option ℕ) → GoesInside door w s (serving_any door s served) → T (is_in door P.F (run door s (serving_any door s served)) w)
  serving_enters s None h = elim h [ ]
  serving_enters s (Some i) h = by (λ cs. GoesInside door w s cs → T (is_in door P.F (run door s cs) w)) (is_inside door s i) _ _
      (λ y h. elim h [
        | inl now ↦ absurd (only_step s (Admit i) now).0
        | inr later ↦ elim later [ inl now ↦ absurd (only_step (after door s (Admit i)) (Leave s.number i) now).0 | inr more ↦ elim more [ ] ]
      ])
      (λ n h. elim h [ inl now ↦ (only_step s (Step i) now).1 | inr more ↦ elim more [ ] ])
      h

  -- an arm that goes inside in a move is inside after it
  move_enters : (d : Dispatch At) (asked : List ℕ) → GoesInside door w d.gate (calls_of_move door d asked) → T (is_in door P.F (moved door d asked).gate w)
  move_enters d asked h =
      let served = serving_any door (opened door d asked) (in_line door d asked) in
      elim (inside_append (opening asked) served d.gate h) [
        | inl x ↦ absurd (opening_enters_not d.gate asked x)
        | inr y ↦ subst (λ s. T (is_in door P.F s w)) (sym (run_append door (opening asked) served d.gate)) (serving_enters (opened door d asked) (in_line door d asked) y)
      ]

  -- an arm that goes inside by the calls of some moves is inside after one of these moves
  pub inside_after_moves : (rings : List (List ℕ)) (d : Dispatch At) → GoesInside door w d.gate (calls_of_moves door d rings) → SeenInside door w d rings
  inside_after_moves [] d h = elim h [ ]
  inside_after_moves (asked ∷ more) d h = elim (inside_append (calls_of_move door d asked) (calls_of_moves door (moved door d asked) more) d.gate h) [
    | inl now ↦ (asked ∷ [], more, refl, move_enters d asked now)
    | inr later ↦ (let s = inside_after_moves more (moved door d asked) later in (asked ∷ s.0, s.1, ap (λ rings. asked ∷ rings) s.2, s.3))
  ]
