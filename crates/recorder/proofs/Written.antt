-- What a call that is not turned down makes of the recorder and of the memory.
use Rattle.std.proofs.Common.{◌≡◌, ℕ, ◌+◌, ◌≤◌, Bool, IsTrue, if◌then◌else◌, List, length, Some, None, Option, Ok, Err, Result, IsErr, IsErrAnd, arith}
use Rattle.std.proofs.lemmas.Bool.Decides.{nat_tests}
use Rattle.gate.specs.Answers.{leave_answer}
use Rattle.gate.specs.Passes.{passes_out}
use Rattle.gate.specs.declared.pass.HandedBack as G
use Rattle.gate.specs.declared.pass.Pass.{Pass}
use Rattle.gate_model.specs.Calls.{answered, refusal_of, after}
use Rattle.gate_model.specs.States.{State}
use Rattle.gate_model.specs.Table.{Table}
use Rattle.gate_model.specs.declared.call.Call.{Call}
use Rattle.gate_model.specs.declared.call.Call.TheVariants.{Leave}
use Rattle.gate_model.specs.declared.phase.Phase.{Phase}
use Rattle.gate_model.specs.declared.refusal.Refusal as M
use Rattle.recorder.specs.Answers.{leave_passed_on, with_spent}
use Rattle.recorder.specs.Recorders.{Recording, Handed, handed, written_as, has_room, order_size, written_down, turned_down, added, after_call, memory_after}
use Rattle.recorder.specs.declared.recorder.HandedBack.{HandedBack}
use Rattle.recorder.specs.declared.refusal.Refusal.{Refusal}
use Rattle.recorder.specs.declared.refusal.Refusal.TheVariants.{FileFull, UnfitGate, Gate}
use Rattle.schedule.specs.declared.order_number.Order.{Order}

-- a call that may be written is not turned down
pub not_down : {At : Type 0} (r : Recording At) (call : Call) (memory : List ℕ) (told : Result (Unit {0}) Refusal)
    → told ≡ (if r.fit then (if has_room r.written (length memory) then Ok tt else Err FileFull) else Err UnfitGate) → told ≡ Ok tt → turned_down r (handed call memory) ≡ None
not_down r call memory told may ok = grind (arith, nat_tests)

-- and neither is one that is not written, where the gate is one that is recorded
pub goes_by : {At : Type 0} (r : Recording At) (call : Call) (memory : List ℕ) (told : Result (Unit {0}) Refusal)
    → told ≡ (if r.fit then Ok tt else Err UnfitGate) → told ≡ Ok tt → written_as call ≡ None → turned_down r (handed call memory) ≡ None
goes_by r call memory told may ok none = grind (arith, nat_tests)

pub room_for : (fit : Bool) (written size : ℕ) (told : Result (Unit {0}) Refusal)
    → told ≡ (if fit then (if has_room written size then Ok tt else Err FileFull) else Err UnfitGate) → told ≡ Ok tt → IsTrue (has_room written size)
room_for fit written size told may ok = grind (arith, nat_tests)

module _ {At : Type 0} (door : Table At) where
  -- the recorder and the memory after a call, by the order that was written
  pub after_went : (r t : Recording At) (h : Handed) (o : Option Order) → turned_down r h ≡ None → added door r h ≡ o
      → t ≡ record { gate = after door r.gate h.call; written = r.written + order_size o; fit = r.fit } → t ≡ after_call door r h
  after_went r t h o down add e = grind arith

  pub memory_went : (r : Recording At) (h : Handed) (file : List ℕ) (o : Option Order) → added door r h ≡ o → file ≡ written_down o r.written h.memory → file ≡ memory_after door r h
  memory_went r h file o add e = grind arith

  -- which is that of the call, where the gate accepts it
  pub added_order : (r : Recording At) (h : Handed) → turned_down r h ≡ None → refusal_of door r.gate h.call ≡ None → added door r h ≡ written_as h.call
  added_order r h down none = grind arith

  -- and none where the gate refuses
  pub none_added : (r : Recording At) (h : Handed) (refusal : M.Refusal) → refusal_of door r.gate h.call ≡ Some refusal → added door r h ≡ None
  none_added r h refusal some = grind arith

  -- a pass that is spent is of an arm of the gate, and one that is not is strange
  pub spent_arm : (s : State At) (p : Pass) (phase : Phase) (told : Result Phase G.HandedBack) → told ≡ leave_answer door s p → told ≡ Ok phase
      → (refusal_of door s (Leave p.gate p.arm) ≡ None) × (p.arm ≤ s.n)
  spent_arm s p phase told is ok = grind (arith, nat_tests)

  pub not_spent : (s : State At) (p : Pass) (back : G.HandedBack) (told : Result Phase G.HandedBack) → told ≡ leave_answer door s p → told ≡ Err back
      → refusal_of door s (Leave p.gate p.arm) ≡ Some back.refusal
  not_spent s p back told is e = grind (arith, nat_tests)

  pub none_spent : (s t : State At) (p : Pass) (refusal : M.Refusal) (answer : Result Phase HandedBack) → refusal_of door s (Leave p.gate p.arm) ≡ Some refusal
      → t ≡ after door s (Leave p.gate p.arm) → IsErr answer → passes_out door t ≡ with_spent p answer (passes_out door s)
  none_spent s t p refusal answer some e err = grind arith

-- nothing is refused where the answer is good
pub none_of : {X : Type 0} (r : Option M.Refusal) (x y : X) (told : Result X M.Refusal) → told ≡ answered r y → told ≡ Ok x → r ≡ None
none_of r x y told is ok = grind arith

-- the gate's answer to a leave is passed on
pub spent_on : (down : Option Refusal) (p : Pass) (phase : Phase) (told : Result Phase G.HandedBack) → down ≡ None → told ≡ Ok phase → Ok phase ≡ leave_passed_on p down told
spent_on down p phase told none is = grind arith

pub back_on : (down : Option Refusal) (p : Pass) (back : G.HandedBack) (told : Result Phase G.HandedBack) (answer : Result Phase HandedBack) → down ≡ None → told ≡ Err back
    → IsErr answer × IsErrAnd answer (λ b. b ≡ record { pass = back.pass; refusal = Gate back.refusal }) → answer ≡ leave_passed_on p down told
back_on down p back told answer none is e = grind arith
