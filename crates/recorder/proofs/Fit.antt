-- Which gates are fit.
use Rattle.std.proofs.Common.{◌≡◌, ℕ, zero, suc, ◌+◌, ◌≤◌, Bool, true, ◌&&◌, Result, IsOk, refl, arith}
use Rattle.std.proofs.lemmas.Bool.Decides.{nat_tests}
use Rattle.std.specs.List.{list_all, range_with_len}
use Rattle.gate_model.specs.Limits.{arm_limit}
use Rattle.gate_model.specs.States.{State, is_arm}
use Rattle.gate_model.specs.Table.{Table}
use Rattle.recorder.specs.Recorders.{is_fit, has_room}
use Rattle.schedule.specs.Writing.{start_answer}
use Rattle.schedule.specs.declared.writer.WriteRefusal.{WriteRefusal}

-- in a range of arms of the gate it need not be asked whether they are
pub all_arms : {At : Type 0} (s : State At) (p : ℕ → Bool) (a k : ℕ) → 1 ≤ a → a + k ≤ s.n + 1 → list_all (λ i. is_arm s i && p i) (range_with_len a k) ≡ list_all p (range_with_len a k)
all_arms s p a zero lo hi = refl
all_arms s p a (suc k) lo hi = let more = all_arms s p (a + 1) k (omega arith) (omega (arith, hi)) in grind (arith, nat_tests)

-- the file of a fit gate can be started where two bytes are free
pub starts : {At : Type 0} (door : Table At) (s : State At) (size : ℕ) (told : Result ℕ WriteRefusal) → s.n ≤ arm_limit → is_fit door s ≡ true → has_room 0 size ≡ true
    → told ≡ start_answer s.n size → IsOk told
starts door s size told few fit room is = grind (arith, nat_tests)
