-- A recorder in hand: a gate, a start and calls lead to it, and to the recorder after one call more.
use Rattle.std.proofs.Common.{◌≡◌, ℕ, ◌≤◌, List, [], ◌∷◌, ◌++◌, length, Some, None, Option, sym, refl, ap, ◌∙◌, subst, arith}
use Rattle.std.proofs.lemmas.Bool.Decides.{nat_tests}
use Rattle.std.proofs.Math.Logic.{∥∥₁_map, ∥∥₁_elim, ∥∥₁_prop}
use Rattle.gate.proofs.InHand.{in_hand}
use Rattle.gate_model.proofs.Origins.{reached_after}
use Rattle.gate_model.specs.Calls.{after}
use Rattle.gate_model.specs.Law.{IsReached}
use Rattle.gate_model.specs.Limits.{arm_limit}
use Rattle.gate_model.specs.States.{State}
use Rattle.gate_model.specs.Table.{Table}
use Rattle.recorder.specs.Recorders.{Recording, Handed, over, unless_down, turned_down, after_call, after_calls, IsRecorder}
use Rattle.recorder.specs.declared.refusal.Refusal.{Refusal}
use Rattle.schedule.specs.FileLimits.{file_limit}
use Rattle.schedule.specs.Numbers.{groups}

pub groups_few : (k : ℕ) → length (groups k) ≤ 2
groups_few k = grind (arith, nat_tests)

module _ {At : Type 0} (door : Table At) where
  pub after_calls_append : (xs : List Handed) (h : Handed) (r : Recording At) → after_calls door r (xs ++ h ∷ []) ≡ after_call door (after_calls door r xs) h
  after_calls_append [] h r = refl
  after_calls_append (x ∷ xs) h r = after_calls_append xs h (after_call door r x)

  -- the recorder over a gate
  pub over_a_gate : (arms : ℕ) (s : State At) (r : Recording At) → IsReached door s → r ≡ over door arms s → IsRecorder door r
  over_a_gate arms s r reached e = subst (IsRecorder door) (sym e) (record {
    short = let few = groups_few arms in omega (arith, few);
    reached = ∣ record { gate = s; reached = reached; arms = arms; calls = []; leads = refl } ∣₁;
  })

  still_short : (r : Recording At) (h : Handed) → r.written ≤ file_limit → (after_call door r h).written ≤ file_limit
  still_short r h short = grind (arith, nat_tests, groups_few)

  -- and after one call more
  pub one_call_more : (r t : Recording At) (h : Handed) → IsRecorder door r → t ≡ after_call door r h → IsRecorder door t
  one_call_more r t h is e = subst (IsRecorder door) (sym e) (record {
    short = still_short r h is.short;
    reached = ∥∥₁_map is.reached (λ o. record {
      gate = o.gate;
      reached = o.reached;
      arms = o.arms;
      calls = o.calls ++ h ∷ [];
      leads = after_calls_append o.calls h (over door o.arms o.gate) ∙ ap (λ x. after_call door x h) o.leads;
    });
  })

  -- its gate is one in hand
  gate_after : (refusal : Option Refusal) (s : State At) (h : Handed) → IsReached door s → IsReached door (unless_down refusal (after door s h.call) s)
  gate_after None s h reached = reached_after door s h.call _ refl reached
  gate_after (Some refusal) s h reached = reached

  gate_after_calls : (hs : List Handed) (r : Recording At) → IsReached door r.gate → IsReached door (after_calls door r hs).gate
  gate_after_calls [] r reached = reached
  gate_after_calls (h ∷ hs) r reached = gate_after_calls hs (after_call door r h) (gate_after (turned_down r h) r.gate h reached)

  gate_reached : (r : Recording At) → IsRecorder door r → IsReached door r.gate
  gate_reached r is = ∥∥₁_elim is.reached ∥∥₁_prop (λ o. subst (λ t. IsReached door t.gate) o.leads (gate_after_calls o.calls (over door o.arms o.gate) o.reached))

  -- so that it has no more arms than a gate may have
  pub few_arms : (r : Recording At) → IsRecorder door r → r.gate.n ≤ arm_limit
  few_arms r is = (in_hand door r.gate (gate_reached r is)).few
