-- A pass that was just given is spent by a leave; a call that is refused alters nothing.
use Rattle.std.proofs.Common.{◌≡◌, ℕ, Bool, not, T, ◌≢◌, Ok, Err, None, Option, Result, IsTrue, IfOk, IsOk, IsErr, sym, ◌∙◌, arith}
use Rattle.std.proofs.lemmas.Bool.Decides.{nat_tests}
use Rattle.gate_model.specs.Calls.{refusal_of, after, unless, answered, knows, way_answer}
use Rattle.gate_model.specs.History.{is_in}
use Rattle.gate_model.specs.States.{State}
use Rattle.gate_model.specs.Table.{Table}
use Rattle.gate_model.specs.declared.call.Call.{Call}
use Rattle.gate_model.specs.declared.call.Call.TheVariants.{Admit, Leave}
use Rattle.gate_model.specs.declared.phase.Phase.{Phase}
use Rattle.gate_model.specs.declared.phase.Phase.TheVariants as P
use Rattle.gate_model.specs.declared.refusal.Refusal.{Refusal}
use Rattle.gate.specs.Answers.{handed_back, admit_answer, leave_answer}
use Rattle.gate.specs.declared.pass.HandedBack.{HandedBack}
use Rattle.gate.specs.declared.pass.Pass.{Pass}
use Rattle.accesses.specs.Runs.{visited}

-- a refused leave alters nothing and hands the pass back
handed_stays : {Y : Type 0} (r : Option Refusal) (pass : Pass) (back : HandedBack) (new old : Y) → handed_back pass r ≡ Err back → (unless r new old ≡ old) × (back.pass ≡ pass)
handed_stays r pass back new old h = (grind arith, grind arith)

refused_stays : {X Y : Type 0} (r : Option Refusal) (x : X) (e : Refusal) (new old : Y) → answered r x ≡ Err e → unless r new old ≡ old
refused_stays r x e new old h = grind arith

module _ {At : Type 0} (door : Table At) where
  -- a refused call alters nothing
  pub stays : {X : Type 0} (s t : State At) (call : Call) (x : X) (e : Refusal) → answered (refusal_of door s call) x ≡ Err e → t ≡ after door s call → t ≡ s
  stays s t call x e h is = is ∙ refused_stays (refusal_of door s call) x e _ s h

  -- a leave with a pass that the gate does not know
  pub strange : (s t : State At) (pass : Pass) (back : HandedBack) → leave_answer door s pass ≡ Err back → t ≡ after door s (Leave pass.gate pass.arm) → (t ≡ s) × (back.pass ≡ pass)
  strange s t pass back h is = let x = handed_stays (refusal_of door s (Leave pass.gate pass.arm)) pass back _ s h in (is ∙ x.0, x.1)

  pub of_another : (s : State At) (pass : Pass) (answer : Result Phase HandedBack) → pass.gate ≢ s.number → answer ≡ leave_answer door s pass → IsErr answer
  of_another s pass answer ne is = grind (arith, nat_tests)

  -- a leave with a pass that was just given is accepted
  pub taken_back : (s : State At) (given : Result Pass Refusal) (pass : Pass) (left : Result Phase HandedBack) → IfOk given (λ p. IsTrue (knows door s p.gate p.arm)) → given ≡ Ok pass → left ≡ leave_answer door s pass → IsOk left
  taken_back s given pass left h ok is =
      let here : IsTrue (knows door s pass.gate pass.arm) = rw ok at h in
      grind arith

  pub admitted : (s : State At) (i : ℕ) (pass : Pass) → refusal_of door s (Admit i) ≡ None → admit_answer door s i ≡ Ok pass → (pass.gate ≡ s.number) × (pass.arm ≡ i)
  admitted s i pass none h = (grind arith, grind arith)

  -- an arm that was just admitted is not admitted again
  pub given_once : (s t : State At) (i : ℕ) (given : Result Pass Refusal) (pass : Pass) (answer : Result Pass Refusal) → refusal_of door s (Admit i) ≡ None → given ≡ admit_answer door s i → given ≡ Ok pass
      → IfOk given (λ p. IsTrue (knows door t p.gate p.arm)) → answer ≡ admit_answer door t i → IsErr answer
  given_once s t i given pass answer none first ok known is =
      let here : IsTrue (knows door t pass.gate pass.arm) = rw ok at known in
      let out : IsTrue (knows door t pass.gate i) = rw (admitted s i pass none (sym first ∙ ok)).1 at here in
      grind arith

  -- an arm is admitted and leaves
  pub visit : (s t u : State At) (i : ℕ) (pass : Pass) → refusal_of door s (Admit i) ≡ None → admit_answer door s i ≡ Ok pass → t ≡ after door s (Admit i) → u ≡ after door t (Leave pass.gate pass.arm) → u ≡ visited door s i
  visit s t u i pass none h first last =
      let is = admitted s i pass none h in
      cc

  -- way of an arm that does not wait is refused
  pub no_way : (s : State At) (i : ℕ) (answer : Result Bool Refusal) → T (not (is_in door P.W s i)) → answer ≡ way_answer door s i → IsErr answer
  no_way s i answer h is = grind arith
