-- The calls of a move, put together.
use Rattle.std.proofs.Common.{◌≡◌, ℕ, true, cond, List, [], ◌∷◌, ◌++◌, None, Option, sym, ap, ◌∙◌, subst, arith}
use Rattle.gate_model.specs.Calls.{refusal_of, unless, left_at_once, run}
use Rattle.gate_model.specs.States.{State}
use Rattle.gate_model.specs.Table.{Table}
use Rattle.gate_model.specs.declared.call.Call.TheVariants.{Step, Admit, Leave}
use Rattle.gate_model.proofs.Origins.{run_append}
use Rattle.dispatcher.specs.Dispatchers.{Dispatch, NoPassOut}
use Rattle.dispatcher.specs.Moves.{opening, is_inside, first_busy, serving, serving_any, opened, in_line, last_after, moved}

module _ {At : Type 0} (door : Table At) where
  -- an arm inside is served
  pub inside_served : (s t : State At) (i : ℕ) → NoPassOut door s → is_inside door s i ≡ true → t ≡ left_at_once door s i → t ≡ run door s (serving door s i)
  inside_served s t i spent inside t_is =
      let may : refusal_of door s (Admit i) ≡ None = let x = spent i in grind arith in
      t_is ∙ ap (λ r. unless r (run door s (Admit i ∷ Leave s.number i ∷ [])) s) may
      ∙ ap (λ b. run door s (cond b (Admit i ∷ Leave s.number i ∷ []) (Step i ∷ []))) (sym inside)

  -- a move in which all arms are idle, or one that serves an arm
  pub move_by : (d : Dispatch At) (asked : List ℕ) (s t : State At) (o : Option ℕ) → s ≡ run door d.gate (opening asked) → first_busy door s d.last ≡ o → t ≡ run door s (serving_any door s o)
      → ◌≡◌ {A = Dispatch At} (record { gate = t; last = last_after d.last o }) (moved door d asked)
  move_by d asked s t o s_is o_is t_is =
      let now = opened door d asked in
      let e : in_line door d asked ≡ o = subst (λ v. first_busy door v d.last ≡ o) s_is o_is in
      ap (λ v. record { gate = v; last = last_after d.last o }) (t_is ∙ ap (λ v. run door v (serving_any door v o)) s_is ∙ sym (run_append door (opening asked) (serving_any door now o) d.gate))
      ∙ sym (ap (λ o. record { gate = run door d.gate (opening asked ++ serving_any door now o); last = last_after d.last o }) e)
