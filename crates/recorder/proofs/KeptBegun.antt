-- A start leaves what it has written at the start of the memory, for hosts.
use Rattle.std.proofs.Common.{◌≡◌, ℕ, ◌≤◌, Bool, true, false, T, if◌then◌else◌, List, [], length, take, Ok, Some, None, refl, ap, ◌∙◌, arith}
use Rattle.std.proofs.lemmas.Grind.{common_steps}
use Rattle.std.proofs.lemmas.Bool.Decides.{nat_tests}
use Rattle.gate_model.specs.Law.{IsReached}
use Rattle.gate_model.specs.States.{State}
use Rattle.gate_model.specs.Table.{Table}
use Rattle.recorder.specs.Answers.{unless_refused}
use Rattle.recorder.specs.Recorders.{Recording, is_fit, has_room, start_refusal, memory_started, unless_down, over}
use Rattle.recorder.specs.declared.refusal.Refusal.TheVariants.{FileFull, UnfitGate}
use Rattle.schedule.specs.Numbers.{groups}
use Rattle.schedule.specs.Writing.{written_at}
use Rattle.recorder.specs.Kept.{Kept, HoldsRecord}
use Rattle.recorder.proofs.InHand.{groups_few}
use Rattle.recorder.proofs.Kept.{kept_as, written_within}

-- where recording starts, the gate is fit, two bytes are free, and the arm count is written
record Starts (fit room : Bool) (n arms : ℕ) (memory written left : List ℕ) : Type 0 where
  is_fit : T fit
  is_room : T room
  count : arms ≡ n
  memory_is : left ≡ written

starts : (fit room : Bool) (n arms : ℕ) (memory written left : List ℕ) → unless_refused (if fit then (if room then None else Some FileFull) else Some UnfitGate) n ≡ Ok arms
    → left ≡ unless_down (if fit then (if room then None else Some FileFull) else Some UnfitGate) written memory → Starts fit room n arms memory written left
starts true true n arms memory written left e f = record { is_fit = tt; is_room = tt; count = cc; memory_is = f }
starts true false n arms memory written left e f = cc
starts false room n arms memory written left e f = cc

at_start : (bytes memory : List ℕ) → take (length bytes) (written_at 0 bytes memory) ≡ bytes
at_start bytes memory = grind (arith, common_steps)

pub kept_begun : {At : Type 0} (door : Table At) (gate : State At) (arms : ℕ) (r : Recording At) (memory left : List ℕ) → IsReached door gate
    → unless_refused (start_refusal door gate (length memory)) gate.n ≡ Ok arms → left ≡ memory_started door gate memory → r ≡ over door arms gate → HoldsRecord door r left
kept_begun door gate arms r memory left reached e f is =
    let s = starts (is_fit door gate) (has_room 0 (length memory)) gate.n arms memory (written_at 0 (groups gate.n) memory) left e f in
    let room : 2 ≤ length memory = (let t = s.is_room in grind (arith, nat_tests, t)) in
    let kept : Kept door gate (over door gate.n gate) (written_at 0 (groups gate.n) memory) = record {
      past = [];
      leads = refl;
      in_place = tt;
      bytes = at_start (groups gate.n) memory;
      within = omega (arith, written_within (groups gate.n) memory 0 (groups_few gate.n) room);
    } in
    (gate, reached, s.is_fit, kept_as door gate (over door gate.n gate) r (written_at 0 (groups gate.n) memory) left (is ∙ ap (λ n. over door n gate) s.count) s.memory_is kept)
