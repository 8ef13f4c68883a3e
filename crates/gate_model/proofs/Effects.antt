-- What a call does: nothing, or it gives its arm another position, count of visits and mark, or it is a step.
use Rattle.std.proofs.Common.{◌≡◌, ℕ, ◌+◌, ◌<◌, ◌≤◌, Bool, true, false, not, ◌&&◌, ◌||◌, T, eqb, None, arith}
use Rattle.gate_model.specs.Limits.{visit_limit}
use Rattle.gate_model.specs.Table.{Table}
use Rattle.gate_model.specs.States.{State, is_arm, arm_at, phase_at, with_arm}
use Rattle.gate_model.specs.Calls.{begin_refusal, step_refusal, admit_refusal, knows, refusal_of, with_visit, stepped, done, after}
use Rattle.gate_model.specs.History.{accepted, is_in, begin_of, step_of, move_of}
use Rattle.gate_model.specs.declared.arm.Arm.{Arm}
use Rattle.gate_model.specs.declared.call.Call.{Call}
use Rattle.gate_model.specs.declared.call.Call.TheVariants.{Begin, Step, Admit, Leave}
use Rattle.gate_model.specs.declared.phase.Phase.TheVariants as P
use Rattle.gate_model.proofs.Accepted.{by_answer, known_arm, for_arm_none, begin_none, step_none, admit_none, leave_none, arm_in}
use Rattle.gate_model.proofs.Bools.{and_T}

-- neither a begin nor a move of any arm
abbrev pub Idles : Call → Bool → Type 0
Idles c ok = (b : ℕ) → T (not (ok && (begin_of b c || move_of b c)))

pub no_move : (c : Call) (ok : Bool) → Idles c ok → (v : ℕ) → (ok && move_of v c) ≡ false
no_move c ok idles v = let x = idles v in grind arith

pub no_step : (c : Call) (ok : Bool) → Idles c ok → (v : ℕ) → (ok && step_of v c) ≡ false
no_step c ok idles v = let x = idles v in grind arith

module _ {At : Type 0} (door : Table At) (s : State At) where
  abbrev pub Known : ℕ → Type 0
  Known i = (1 ≤ i) × (i ≤ s.n)

  -- the record that a call without an access gives its arm i
  pub data Visits : Call → ℕ → Arm At → Type 0 where
    begins : {i : ℕ} → T (is_in door P.I s i) → (arm_at door s i).visits < visit_limit
        → Visits (Begin i) i (with_visit door.entry ((arm_at door s i).visits + 1) (arm_at door s i).out (arm_at door s i))
    admits : {i : ℕ} → T (is_in door P.F s i && not (arm_at door s i).out)
        → Visits (Admit i) i (with_visit (arm_at door s i).position (arm_at door s i).visits true (arm_at door s i))
    leaves : {g i : ℕ} → T (eqb g s.number) → T (arm_at door s i).out
        → Visits (Leave g i) i (with_visit door.exit (arm_at door s i).visits false (arm_at door s i))

  -- the state after a call that is accepted, or not
  pub data Does : Call → Bool → State At → Type 0 where
    nothing : {c : Call} {ok : Bool} → Idles c ok → Does c ok s
    visits : {c : Call} {i : ℕ} {r : Arm At} → Known i → Visits c i r → Does c true (with_arm i r s)
    steps : {i : ℕ} → Known i → refusal_of door s (Step i) ≡ None → T (not (is_in door P.I s i) && not (is_in door P.F s i)) → Does (Step i) true (stepped door i s)

  accepted_does : (c : Call) → refusal_of door s c ≡ None → Does c true (done door s c)
  accepted_does (Begin i) e =
      let k = begin_none (phase_at door s i) (arm_at door s i).visits (for_arm_none (is_arm s i) _ e) in
      visits (known_arm s i (begin_refusal (phase_at door s i) (arm_at door s i).visits) e) (begins k.0 k.1)
  accepted_does (Step i) e = steps (known_arm s i (step_refusal (phase_at door s i)) e) e (step_none (phase_at door s i) (for_arm_none (is_arm s i) _ e))
  accepted_does (Admit i) e =
      visits (known_arm s i (admit_refusal (phase_at door s i) (arm_at door s i).out) e) (admits (admit_none (phase_at door s i) (arm_at door s i).out (for_arm_none (is_arm s i) _ e)))
  accepted_does (Leave g i) e =
      let k = and_T (eqb g s.number) (is_arm s i && (arm_at door s i).out) (leave_none (knows door s g i) e) in
      let x = and_T (is_arm s i) (arm_at door s i).out k.1 in
      visits (arm_in s i x.0) (leaves k.0 x.1)
  accepted_does c e = nothing (λ b. tt)

  pub does : (c : Call) → Does c (accepted door s c) (after door s c)
  does c = by_answer (refusal_of door s c) (done door s c) s (λ t ok. Does c ok t) (accepted_does c) (nothing (λ b. tt))
