-- An arm that is not idle moves at a call, or is not idle after it either.
use Rattle.std.proofs.Common.{ℕ, Bool, not, ◌&&◌, T, ◌⊎◌, inl, inr, List, [], ◌∷◌, ◌++◌, sym, refl, subst, arith}
use Rattle.std.proofs.lemmas.Bool.Decides.{nat_tests}
use Rattle.gate_model.specs.Calls.{after, run}
use Rattle.gate_model.specs.History.{move_of, moves, Moves, is_in}
use Rattle.gate_model.specs.Law.{IsReached}
use Rattle.gate_model.specs.Phases.{same_phase}
use Rattle.gate_model.specs.States.{State, is_arm}
use Rattle.gate_model.specs.Table.{Table}
use Rattle.gate_model.specs.declared.arm.Arm.{Arm}
use Rattle.gate_model.specs.declared.call.Call.{Call}
use Rattle.gate_model.specs.declared.phase.Phase.TheVariants as P
use Rattle.gate_model.proofs.Accepted.{arm_in}
use Rattle.gate_model.proofs.Bools.{and_T, T_and, clash}
use Rattle.gate_model.proofs.Bounds.{each_there}
use Rattle.gate_model.proofs.Effects.{begins, admits, leaves}
use Rattle.gate_model.proofs.Origins.{reached_after}
use Rattle.gate_model.proofs.Records.{Became, stays, visited, moved_on, became_by}
use Rattle.gate_model.proofs.Unaltered.{after_n}
use Rattle.dispatcher.specs.Moves.{is_busy}

module _ {At : Type 0} (door : Table At) where
  -- its record after a call
  record_busy : (s : State At) (b : ℕ) → T (not (is_in door P.I s b)) → (c : Call) (ok : Bool) (a : Arm At) → Became door s b c ok a
      → T (ok && move_of b c) ⊎ T (not (same_phase (door.phase a.position) P.I))
  record_busy s b h c ok a (stays _ seen) = inr (subst (λ p. T (not (same_phase (door.phase p) P.I))) (sym seen.0) h)
  record_busy s b h c ok a (visited (begins idle _)) = absurd (clash (is_in door P.I s b) idle h)
  record_busy s b h c ok a (visited (admits _)) = inl (grind (arith, nat_tests))
  record_busy s b h c ok a (visited (leaves _ _)) = inl (grind (arith, nat_tests))
  record_busy s b h c ok a (moved_on _ _ _) = inl (grind (arith, nat_tests))

  busy_stays : (s : State At) → IsReached door s → (b : ℕ) → T (is_busy door s b) → (c : Call) → T (moves door b s c) ⊎ T (is_busy door (after door s c) b)
  busy_stays s reached b h c =
      let x = and_T (is_arm s b) (not (is_in door P.I s b)) h in
      let arm : T (is_arm (after door s c) b) = subst (λ n. T (is_arm (record s { n = n }) b)) (sym (after_n door s c)) x.0 in
      elim (record_busy s b x.1 c _ _ (became_by door s (each_there door s reached) b (arm_in s b x.0).0 c)) [ inl m ↦ inl m | inr still ↦ inr (T_and (is_arm (after door s c) b) _ arm still) ]

  -- the same of a list of calls
  pub busy_after : (cs : List Call) (s : State At) → IsReached door s → (b : ℕ) → T (is_busy door s b) → Moves door b s cs ⊎ T (is_busy door (run door s cs) b)
  busy_after [] s reached b h = inr h
  busy_after (c ∷ cs) s reached b h = elim (busy_stays s reached b h c) [
    | inl m ↦ inl (inl m)
    | inr still ↦ elim (busy_after cs (after door s c) (reached_after door s c _ refl reached) b still) [ inl m ↦ inl (inr m) | inr more ↦ inr more ]
  ]

  pub moves_left : (xs ys : List Call) (s : State At) (b : ℕ) → Moves door b s xs → Moves door b s (xs ++ ys)
  moves_left [] ys s b m = elim m [ ]
  moves_left (c ∷ xs) ys s b m = elim m [ inl now ↦ inl now | inr later ↦ inr (moves_left xs ys (after door s c) b later) ]

  pub moves_right : (xs ys : List Call) (s : State At) (b : ℕ) → Moves door b (run door s xs) ys → Moves door b s (xs ++ ys)
  moves_right [] ys s b m = m
  moves_right (c ∷ xs) ys s b m = inr (moves_right xs ys (after door s c) b m)
