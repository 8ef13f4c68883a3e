-- A gate that is recorded, and one that obeys the orders as they are written: the second follows the first.
use Rattle.std.proofs.Common.{◌≡◌, ℕ, ◌-◌, ◌<◌, ◌≤◌, Bool, true, false, ◌&&◌, T, eqb, length, None, sym, refl, ap, ◌∙◌, subst, arith}
use Rattle.std.proofs.lemmas.Bool.Decides.{nat_tests}
use Rattle.std.proofs.lemmas.List.{get_or-set_same}
use Rattle.gate_model.specs.Accesses.{ShowsAccesses}
use Rattle.gate_model.specs.Arms.{no_arm}
use Rattle.gate_model.specs.Calls.{admit_refusal, refusal_of, knows, done, after, unless}
use Rattle.gate_model.specs.History.{is_in}
use Rattle.gate_model.specs.Phases.{same_phase}
use Rattle.gate_model.specs.States.{State, is_arm, arm_at, phase_at}
use Rattle.gate_model.specs.Table.{Table}
use Rattle.gate_model.specs.declared.call.Call.{Call}
use Rattle.gate_model.specs.declared.call.Call.TheVariants.{Begin as begin, Step as step, Admit as admit, Leave as leave}
use Rattle.gate_model.specs.declared.phase.Phase.{Phase}
use Rattle.gate_model.specs.declared.phase.Phase.TheVariants as P
use Rattle.gate_model.proofs.Accepted.{unless_both, known_arm, arm_in, arm_is, leave_none}
use Rattle.gate_model.proofs.Always.{true_at}
use Rattle.gate_model.proofs.Bools.{and_T}
use Rattle.gate_model.proofs.Bounds.{each_there}
use Rattle.gate_model.proofs.Origins.{reached_after}
use Rattle.gate_model.proofs.PassesInside.{pass_inside}
use Rattle.gate_model.proofs.Seen.{mark_unseen}
use Rattle.gate_model.proofs.Twins.{StandAlike, Twins, same_refusal, arm_same, done_same, after_twins}
use Rattle.gate_model.proofs.Unmarked.{Unmarked, unmarked_begun, unmarked_stepped, unmarked_left}
use Rattle.obeying.specs.Obeying.{order_refusal, obeyed}
use Rattle.schedule.specs.declared.order_number.Order.{Order}
use Rattle.schedule.specs.declared.order_number.Order.TheVariants.{Begin, Step, Leave}

module _ {At : Type 0} (door : Table At) where
  -- t is the same as s but for its number and marks, and has no pass out
  pub record Follows (s t : State At) : Type 0 where
    pub twins : Twins door false s t
    pub unmarked : Unmarked door t.arms

  -- t obeys an order, and then follows s after a call
  abbrev pub Obeys : State At → State At → Order → Type 0
  Obeys s t o = (order_refusal door t o ≡ None) × Follows s (obeyed door t o)

  pub accepted_is : (s : State At) (c : Call) → refusal_of door s c ≡ None → after door s c ≡ done door s c
  accepted_is s c e = ap (λ r. unless r (done door s c) s) e

  free_to_admit : (p : Phase) (o : Bool) → T (same_phase p P.F) → o ≡ false → admit_refusal p o ≡ None
  free_to_admit p o h e = grind arith

  -- an admit, which is not written, alters a mark
  admitted_same : (s t : State At) (i : ℕ) → i - 1 < s.n → StandAlike door false s t → StandAlike door false (done door s (admit i)) t
  admitted_same s t i l h = record {
    number = h.number;
    n = h.n;
    arms = h.arms ∙ sym (mark_unseen door s.n (i - 1) l true s.arms);
    registers = h.registers;
    turns = h.turns;
  }

  pub follows_admitted : (s t : State At) (i : ℕ) → Follows s t → Follows (after door s (admit i)) t
  follows_admitted s t i f = record {
    twins = record {
      same = unless_both (refusal_of door s (admit i)) (done door s (admit i)) s (λ x. StandAlike door false x t)
          (λ e. let r = known_arm s i (admit_refusal (phase_at door s i) (arm_at door s i).out) e in
          admitted_same s t i (let lo = r.0 in let hi = r.1 in omega arith) f.twins.same) f.twins.same;
      reached = reached_after door s (admit i) _ refl f.twins.reached;
      other = f.twins.other;
    };
    unmarked = f.unmarked;
  }

  -- a leave of arm i, which is written, and what obeying it does: it free_to_admit the arm and lets it leave
  module _ (s t : State At) (g i : ℕ) (e : refusal_of door s (leave g i) ≡ None) (f : Follows s t) where
    known : T (is_arm s i && (arm_at door s i).out)
    known = (and_T (eqb g s.number) _ (leave_none (knows door s g i) e)).1

    in_first : T (is_arm s i)
    in_first = (and_T (is_arm s i) _ known).0

    reach : (1 ≤ i) × (i ≤ s.n)
    reach = arm_in s i in_first

    in_second : T (is_arm t i)
    in_second = let n = f.twins.same.n in let lo = reach.0 in let hi = reach.1 in arm_is t i lo (omega arith)

    inside : T (same_phase (phase_at door t i) P.F)
    inside = subst (λ (p : Phase). T (same_phase p P.F)) (sym (ap (λ a. door.phase a.position) (arm_same door false s t f.twins.same i in_first)))
        (true_at door (is_in door P.F s i) (λ o. pass_inside door s o i (and_T (is_arm s i) _ known).1) f.twins.reached)

    pub may_admit : refusal_of door t (admit i) ≡ None
    may_admit = let y = free_to_admit (phase_at door t i) (arm_at door t i).out inside (f.unmarked i) in let k = in_second in grind arith

    abbrev let_in : State At
    let_in = done door t (admit i)

    in_place : i - 1 < length t.arms
    in_place = let there = each_there door t f.twins.other in let n = f.twins.same.n in let lo = reach.0 in let hi = reach.1 in omega arith

    may_leave : refusal_of door let_in (leave t.number i) ≡ None
    may_leave =
        let out : (arm_at door let_in i).out ≡ true = ap (λ a. a.out) (get_or-set_same t.arms (i - 1) _ (no_arm door) in_place) in
        let k = in_second in
        grind (arith, nat_tests)

    let_in_twins : Twins door false s let_in
    let_in_twins = record {
      same = (let same = f.twins.same in record {
        number = same.number;
        n = same.n;
        arms = mark_unseen door s.n (i - 1) (let lo = reach.0 in let hi = reach.1 in omega arith) true t.arms ∙ same.arms;
        registers = same.registers;
        turns = same.turns;
      });
      reached = f.twins.reached;
      other = reached_after door t (admit i) let_in (sym (accepted_is t (admit i) may_admit)) f.twins.other;
    }

    obeyed_is : obeyed door t (Leave i) ≡ done door let_in (leave t.number i)
    obeyed_is =
        ap (λ r. unless r (after door (after door t (admit i)) (leave t.number i)) t) may_admit
        ∙ ap (λ x. after door x (leave t.number i)) (accepted_is t (admit i) may_admit) ∙ accepted_is let_in (leave t.number i) may_leave

module _ {At : Type 0} (door : Table At) (shown : ShowsAccesses door) (some_room : (n : ℕ) → 1 ≤ door.room n) (s t : State At) (f : Follows door s t) where
  -- each accepted call that is written is obeyed
  pub begin_obeyed : (i : ℕ) → refusal_of door s (begin i) ≡ None → Obeys door (after door s (begin i)) t (Begin i)
  begin_obeyed i e = (
    same_refusal door false s t (begin i) f.twins.same tt ∙ e,
    record { twins = after_twins door shown some_room false s t (begin i) tt f.twins; unmarked = unmarked_begun door t i f.unmarked },
  )

  pub step_obeyed : (i : ℕ) → refusal_of door s (step i) ≡ None → Obeys door (after door s (step i)) t (Step i)
  step_obeyed i e = (
    same_refusal door false s t (step i) f.twins.same tt ∙ e,
    record { twins = after_twins door shown some_room false s t (step i) tt f.twins; unmarked = unmarked_stepped door t i f.unmarked },
  )

  pub leave_obeyed : (g i : ℕ) → refusal_of door s (leave g i) ≡ None → Obeys door (after door s (leave g i)) t (Leave i)
  leave_obeyed g i e =
      let admitted = may_admit door s t g i e f in
      let x = let_in door s t g i e f in
      let y = after door (after door t (admit i)) (leave t.number i) in
      let twins = let_in_twins door s t g i e f in
      let last : obeyed door t (Leave i) ≡ y = ap (λ r. unless r y t) admitted in (
        admitted,
        record {
          twins = record {
            same = subst (λ z. StandAlike door false z (obeyed door t (Leave i))) (sym (accepted_is door s (leave g i) e))
                (subst (StandAlike door false (done door s (leave g i))) (sym (obeyed_is door s t g i e f)) (done_same door shown some_room false s x (leave g i) e twins));
            reached = reached_after door s (leave g i) _ refl f.twins.reached;
            other = reached_after door (after door t (admit i)) (leave t.number i) _ last (reached_after door t (admit i) _ refl f.twins.other);
          };
          unmarked = subst (λ z. Unmarked door z.arms) (sym last) (unmarked_left door t i admitted f.unmarked);
        },
      )
