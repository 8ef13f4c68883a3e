-- A gate in hand: all that holds of it follows from a making and calls that lead to it.
use Rattle.std.proofs.Common.{◌≡◌, ◌≤◌, length, subst, arith}
use Rattle.gate_model.specs.Calls.{after}
use Rattle.gate_model.specs.Law.{IsReached}
use Rattle.gate_model.specs.Limits.{arm_limit}
use Rattle.gate_model.specs.States.{State}
use Rattle.gate_model.specs.Table.{Table}
use Rattle.gate_model.specs.declared.call.Call.{Call}
use Rattle.gate_model.proofs.Always.{at_most, same_at}
use Rattle.gate_model.proofs.Bounds.{bounded_at}
use Rattle.gate_model.proofs.Origins.{reached_after}
use Rattle.gate.specs.Gates.{IsGate}

module _ {At : Type 0} (door : Table At) where
  pub in_hand : (s : State At) → IsReached door s → IsGate door s
  in_hand s reached = record {
    few = at_most door s.n arm_limit (λ p. (bounded_at door s p).few) reached;
    full = same_at door (length s.arms) arm_limit (λ p. (bounded_at door s p).full) reached;
    reached = reached;
  }

  -- after one more call it is still a gate in hand
  pub after_call : (v s t : State At) (c : Call) → IsGate door v → v ≡ s → t ≡ after door s c → IsGate door t
  after_call v s t c gate is e = in_hand t (reached_after door s c t e (subst (IsReached door) is gate.reached))

  -- every arm has a record
  pub all_there : (s v : State At) → IsGate door v → v ≡ s → s.n ≤ length s.arms
  all_there s v gate is = subst (λ x. x.n ≤ length x.arms) is (omega (arith, gate.few, gate.full))
