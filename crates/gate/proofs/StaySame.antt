-- Two gates that are the same answer every further list of calls alike, and stay the same.
use Rattle.std.proofs.Common.{◌≡◌, ℕ, zero, suc, ◌-◌, ◌<◌, ◌≤◌, max, true, ◌||◌, List, [], ◌∷◌, map, take, get_or, None, Some, Ok, Option, sym, refl, ap, ap₂, ◌∙◌, arith}
use Rattle.std.specs.List.{list_any}
use Rattle.gate_model.specs.Accesses.{ShowsAccesses}
use Rattle.gate_model.specs.Arms.{side_of, has_side}
use Rattle.gate_model.specs.Calls.{for_arm, step_refusal, way_refusal, refusal_of, answered, arm_after, some_side, has_way, after, run}
use Rattle.gate_model.specs.Law.{IsReached}
use Rattle.gate_model.specs.SameGates.{SameGates}
use Rattle.gate_model.specs.States.{State, arm_at, phase_at}
use Rattle.gate_model.specs.Table.{Table}
use Rattle.gate_model.specs.declared.arm.Arm.{Arm}
use Rattle.gate_model.specs.declared.call.Call.{Call}
use Rattle.gate_model.specs.declared.call.Call.TheVariants.{Begin as begin, Step as step, Admit as admit, Confirm as confirm, Leave as leave, Look as look, Tally as tally, Way as way}
use Rattle.gate_model.specs.declared.refusal.Refusal.{Refusal}
use Rattle.gate_model.proofs.Accepted.{for_arm_none, known_arm, arm_is}
use Rattle.gate_model.proofs.SameGates.{same_gates, twins_of}
use Rattle.gate_model.proofs.Seen.{trimmed}
use Rattle.gate_model.proofs.Twins.{StandAlike, Twins, arm_same, phase_same, known_same, same_refusal, same_but_marks, bit_same, read_alike, after_twins}
use Rattle.gate.specs.Answers.{largest_count, handed_back, view_of, tally_of}
use Rattle.gate.specs.SameWay.{named, answer_to, of_begin, of_step, of_admit, of_confirm, of_leave, of_look, of_tally, of_way, answers_to, ToldAlike, StaySame}

-- answers are equal where the calls are refused alike, and yield the same where they are accepted
answered_same : {X : Type 0} (r q : Option Refusal) (x y : X) → q ≡ r → (r ≡ None → y ≡ x) → answered q y ≡ answered r x
answered_same r q x y e f = ap (λ o. answered o y) e ∙ by_refusal r f
  where
    by_refusal : (r : Option Refusal) → (r ≡ None → y ≡ x) → answered r y ≡ answered r x
    by_refusal None f = ap Ok (f refl)
    by_refusal (Some refusal) f = refl

-- rows with equal first n counts have the same largest of these
pub largest_same : (row other : List ℕ) (n : ℕ) → ((k : ℕ) → k < n → get_or row k 0 ≡ get_or other k 0) → largest_count other n ≡ largest_count row n
largest_same row other zero same = refl
largest_same row other (suc n) same = ap₂ max (largest_same row other n (λ k l. same k (omega (arith, l)))) (sym (same n (omega arith)))

-- a side is had by one of the arms, whichever marks, rows and notes these have
any_seen : {At : Type 0} (n side : ℕ) (arms : List (Arm At)) → list_any (λ a. has_side side a.side) (map (trimmed true n) arms) ≡ list_any (λ a. has_side side a.side) arms
any_seen n side [] = refl
any_seen n side (a ∷ arms) = ap (λ more. has_side side a.side || more) (any_seen n side arms)

module _ {At : Type 0} (door : Table At) (shown : ShowsAccesses door) (some_room : (n : ℕ) → 1 ≤ door.room n) where
  -- one of the arms has this side at both gates, or at none
  some_same : (s t : State At) (side : ℕ) → StandAlike door true s t → some_side side t.arms t.n ≡ some_side side s.arms s.n
  some_same s t side h =
      ap (some_side side t.arms) h.n
      ∙ (sym (any_seen s.n side (take s.n t.arms)) ∙ (ap (list_any (λ a. has_side side a.side)) h.arms ∙ any_seen s.n side (take s.n s.arms)))

  -- what accepted calls yield
  way_same : (s t : State At) (i : ℕ) → Twins door true s t → refusal_of door s (way i) ≡ None → has_way door t i ≡ has_way door s i
  way_same s t i h e =
      let r = known_arm s i (way_refusal (phase_at door s i)) e in
      let bit = bit_same door some_room s t (same_but_marks door true s t h.same) in
      let side : side_of (arm_at door t i).side ≡ side_of (arm_at door s i).side = ap (λ (a : Arm At). side_of a.side) (arm_same door true s t h.same i (arm_is s i r.0 r.1)) in
      let other = some_same s t (1 - side_of (arm_at door s i).side) h.same in
      cc

  step_same : (s t : State At) (i : ℕ) → Twins door true s t → refusal_of door s (step i) ≡ None → door.phase (arm_after door t i).position ≡ door.phase (arm_after door s i).position
  step_same s t i h e =
      let r = known_arm s i (step_refusal (phase_at door s i)) e in
      let value = read_alike door shown some_room true s t i e h in
      let arm = arm_same door true s t h.same i (arm_is s i r.0 r.1) in
      let n = h.same.n in
      let position = ap (λ (a : Arm At). a.position) arm in
      let side = ap (λ (a : Arm At). a.side) arm in
      cc

  view_same : (s t : State At) (i : ℕ) → Twins door true s t → refusal_of door s (look i) ≡ None → view_of door (arm_at door t i) t.turns ≡ view_of door (arm_at door s i) s.turns
  view_same s t i h e =
      let r = known_arm s i None e in
      ap (λ (a : Arm At). view_of door a t.turns) (arm_same door true s t h.same i (arm_is s i r.0 r.1)) ∙ ap (view_of door (arm_at door s i)) h.same.turns

  tally_same : (s t : State At) (w b : ℕ) → Twins door true s t → refusal_of door s (tally w b) ≡ None → tally_of door (arm_at door t w) b ≡ tally_of door (arm_at door s w) b
  tally_same s t w b h e =
      let r = known_arm s w (for_arm s b None) e in
      let q = known_arm s b None (for_arm_none _ _ e) in
      let same = (same_but_marks door true s t h.same).arms w r.0 r.1 in
      let below : b - 1 < s.n = (let lo = q.0 in let hi = q.1 in omega arith) in
      ap₂ (λ count idle. record { count = count; idle = idle }) (sym (same.row (b - 1) below)) (sym (same.notes (b - 1) below))

  -- one call
  answer_same : (s t : State At) (c : Call) → Twins door true s t → answer_to door t c ≡ answer_to door s c
  answer_same s t (begin i) h = ap of_begin (answered_same (refusal_of door s (begin i)) _ _ _ (same_refusal door true s t (begin i) h.same tt) (λ _. refl))
  answer_same s t (step i) h = ap of_step (answered_same (refusal_of door s (step i)) _ _ _ (same_refusal door true s t (step i) h.same tt) (step_same s t i h))
  answer_same s t (admit i) h =
      ap of_admit (answered_same (refusal_of door s (admit i)) _ _ _ (same_refusal door true s t (admit i) h.same tt) (λ _. ap (λ gate. named gate i) (h.same.number tt)))
  answer_same s t (confirm gate i) h = ap (λ yes. of_confirm (named gate i, yes)) (known_same door true s t h.same i tt gate)
  answer_same s t (leave gate i) h = ap (λ refusal. of_leave (handed_back (named gate i) refusal)) (same_refusal door true s t (leave gate i) h.same tt)
  answer_same s t (look i) h = ap of_look (answered_same (refusal_of door s (look i)) _ _ _ (same_refusal door true s t (look i) h.same tt) (view_same s t i h))
  answer_same s t (tally w b) h = ap of_tally (answered_same (refusal_of door s (tally w b)) _ _ _ (same_refusal door true s t (tally w b) h.same tt) (tally_same s t w b h))
  answer_same s t (way i) h = ap of_way (answered_same (refusal_of door s (way i)) _ _ _ (same_refusal door true s t (way i) h.same tt) (way_same s t i h))

  -- a list of calls
  answers_same : (calls : List Call) (s t : State At) → Twins door true s t → answers_to door s calls ≡ answers_to door t calls
  answers_same [] s t h = refl
  answers_same (c ∷ cs) s t h =
      ap₂ (λ a more. a ∷ more) (sym (answer_same s t c h)) (answers_same cs (after door s c) (after door t c) (after_twins door shown some_room true s t c tt h))

  run_twins : (calls : List Call) (s t : State At) → Twins door true s t → Twins door true (run door s calls) (run door t calls)
  run_twins [] s t h = h
  run_twins (c ∷ cs) s t h = run_twins cs (after door s c) (after door t c) (after_twins door shown some_room true s t c tt h)

  -- the calls that no list names
  told_alike : (s t : State At) → Twins door true s t → ToldAlike door s t
  told_alike s t h =
      let same = same_but_marks door true s t h.same in
      record {
        arm_count = same.n;
        bit = sym (bit_same door some_room s t same);
        phase = λ i. sym (answered_same (refusal_of door s (look i)) _ _ _ (same_refusal door true s t (look i) h.same tt)
            (λ e. let r = known_arm s i None e in phase_same door true s t h.same i (arm_is s i r.0 r.1)));
        most_passed = λ i. sym (answered_same (refusal_of door s (look i)) _ _ _ (same_refusal door true s t (look i) h.same tt)
            (λ e. let r = known_arm s i None e in
            ap (largest_count (arm_at door t i).row) h.same.n ∙ largest_same (arm_at door s i).row (arm_at door t i).row s.n (same.arms i r.0 r.1).row));
        let_go = λ i. sym (answered_same (refusal_of door s (admit i)) _ _ _ (same_refusal door true s t (admit i) h.same tt) (λ _. refl));
      }

  pub stay_same : (s t : State At) → IsReached door s → IsReached door t → SameGates door s t → StaySame door s t
  stay_same s t reached other same calls =
      let h = twins_of door s t reached other same in
      let end = run_twins calls s t h in
      record {
        answers = answers_same calls s t h;
        same = same_gates door (run door s calls) (run door t calls) end.same;
        told = told_alike (run door s calls) (run door t calls) end;
      }
