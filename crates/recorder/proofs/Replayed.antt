-- The file of a recorder replays: the law.
use Rattle.std.proofs.Common.{option_to_list, ◌≡◌, ℕ, ◌+◌, ◌-◌, ◌<◌, ◌≤◌, true, false, if◌then◌else◌, not, ◌&&◌, T, eqb, List, [], ◌∷◌, ◌++◌, get_or, None, Some, Option, is_some, sym, refl, ap, ap₂, ◌∙◌, subst, arith}
use Rattle.std.specs.List.{range_with_len}
use Rattle.std.proofs.lemmas.Bool.Decides.{nat_tests}
use Rattle.std.proofs.lemmas.List.Folds.{list_all_at}
use Rattle.std.proofs.lemmas.List.FromFn.{length-range_with_len, get_or-range_with_len}
use Rattle.std.proofs.Math.Logic.{∥∥₁_elim}
use Rattle.std.proofs.Math.Bridge.{le_prop}
use Rattle.std.proofs.Math.Nat.{ℕ_set}
use Rattle.std.proofs.Math.Bool.{Bool-set}
use Rattle.std.specs.Coded.{Coded-set, coded_ℕ, coded_option}
use Rattle.gate_model.specs.Accesses.{ShowsAccesses}
use Rattle.gate_model.specs.Calls.{refusal_of, done, after, unless}
use Rattle.gate_model.specs.History.{no_refusal}
use Rattle.gate_model.specs.Law.{Origin, IsReached}
use Rattle.gate_model.specs.Limits.{arm_limit}
use Rattle.gate_model.specs.Making.{Making, arms_of}
use Rattle.gate_model.specs.Rules.{Phased}
use Rattle.gate_model.specs.SameButMarks.{SameButMarks}
use Rattle.gate_model.specs.States.{State, made, arm_at}
use Rattle.gate_model.specs.Table.{Table}
use Rattle.gate_model.specs.Unbegun.{Unbegun}
use Rattle.gate_model.specs.declared.call.Call.{Call}
use Rattle.gate_model.specs.declared.call.Call.TheVariants.{Begin as begin, Step as step, Admit as admit, Confirm as confirm, Leave as leave, Look as look, Tally as tally, Way as way}
use Rattle.gate_model.specs.declared.refusal.Refusal as M
use Rattle.gate_model.proofs.Accepted.{arm_in}
use Rattle.gate_model.proofs.Always.{at_most}
use Rattle.gate_model.proofs.AsMade.{as_made}
use Rattle.gate_model.proofs.Bounds.{bounded_at}
use Rattle.gate_model.proofs.Twins.{Twins, made_twins, same_but_marks}
use Rattle.gate_model.proofs.Unmarked.{unmarked_made}
use Rattle.obeying.specs.Obeying.{obeyed, obeyed_all, refusals}
use Rattle.recorder.specs.Law.{recorded, written_by, Replays, IsRecord, begun, LawOfRecords}
use Rattle.recorder.specs.Recorders.{Recording, Handed, written_as, unless_down, turned_down, is_fit, added, after_call, after_calls}
use Rattle.recorder.specs.declared.refusal.Refusal.{Refusal}
use Rattle.recorder.proofs.FileSoFar.{IsFile, many_more, at_start, lawful, after_call_n}
use Rattle.recorder.proofs.Follows.{Follows, Obeys, accepted_is, follows_admitted, begin_obeyed, step_obeyed, leave_obeyed}
use Rattle.schedule.specs.Numbers.{groups}
use Rattle.schedule.specs.declared.order_number.Order.{Order}
use Rattle.schedule.specs.declared.order_number.Order.TheVariants.{Begin, Step, Leave}

module _ {At : Type 0} (door : Table At) where
  -- t refuses none of the orders, and follows s after them
  abbrev Plays : State At → State At → List Order → Type 0
  Plays s t orders = (refusals door t orders ≡ 0) × Follows door s (obeyed_all door t orders)

  refusals_append : (xs ys : List Order) (t : State At) → refusals door t (xs ++ ys) ≡ refusals door t xs + refusals door (obeyed_all door t xs) ys
  refusals_append [] ys t = omega arith
  refusals_append (o ∷ xs) ys t = let more = refusals_append xs ys (obeyed door t o) in omega (arith, more)

  obeyed_append : (xs ys : List Order) (t : State At) → obeyed_all door t (xs ++ ys) ≡ obeyed_all door (obeyed_all door t xs) ys
  obeyed_append [] ys t = refl
  obeyed_append (o ∷ xs) ys t = obeyed_append xs ys (obeyed door t o)

module _ {At : Type 0} (door : Table At) (shown : ShowsAccesses door) (some_room : (n : ℕ) → 1 ≤ door.room n) where
  -- what an accepted call adds
  module _ (s t : State At) (f : Follows door s t) where
    one : (c : Call) (o : Order) → refusal_of door s c ≡ None → Obeys door (after door s c) t o → Plays door (done door s c) t (o ∷ [])
    one c o e x = (
      ap (λ r. (if is_some r then 1 else 0) + 0) x.0,
      subst (λ z. Follows door z (obeyed door t o)) (accepted_is door s c e) x.1,
    )

    plays_done : (c : Call) → refusal_of door s c ≡ None → Plays door (done door s c) t (option_to_list (written_as c))
    plays_done (begin i) e = one (begin i) (Begin i) e (begin_obeyed door shown some_room s t f i e)
    plays_done (step i) e = one (step i) (Step i) e (step_obeyed door shown some_room s t f i e)
    plays_done (admit i) e = (refl, subst (λ z. Follows door z t) (accepted_is door s (admit i) e) (follows_admitted door s t i f))
    plays_done (leave g i) e = one (leave g i) (Leave i) e (leave_obeyed door shown some_room s t f g i e)
    plays_done (confirm g i) e = (refl, f)
    plays_done (look i) e = (refl, f)
    plays_done (tally i j) e = (refl, f)
    plays_done (way i) e = (refl, f)

    -- what any call of the recorder adds, by why it is turned down or refused
    plays_call : (c : Call) (down : Option Refusal) (why : Option M.Refusal) → refusal_of door s c ≡ why
        → Plays door (unless_down down (unless why (done door s c) s) s) t (option_to_list (if not (is_some down) && no_refusal why then written_as c else None))
    plays_call c (Some x) why e = (refl, f)
    plays_call c None (Some y) e = (refl, f)
    plays_call c None None e = plays_done c e

  plays : (hs : List Handed) (r : Recording At) (t : State At) → Follows door r.gate t → Plays door (after_calls door r hs).gate t (recorded door r hs)
  plays [] r t f = (refl, f)
  plays (h ∷ hs) r t f =
      let first = option_to_list (added door r h) in
      let rest = recorded door (after_call door r h) hs in
      let here = plays_call r.gate t f h.call (turned_down r h) (refusal_of door r.gate h.call) refl in
      let more = plays hs (after_call door r h) (obeyed_all door t first) here.1 in (
        refusals_append door first rest t ∙ ap₂ (λ a b. a + b) here.0 more.0,
        subst (Follows door (after_calls door (after_call door r h) hs).gate) (sym (obeyed_append door first rest t)) more.1,
      )

  -- from a gate just made
  pub from_made : (making other : Making) (hs : List Handed) (r : Recording At) → r.gate ≡ made door making → arms_of door other ≡ r.gate.n
      → (refusals door (made door other) (recorded door r hs) ≡ 0) × SameButMarks door (after_calls door r hs).gate (obeyed_all door (made door other) (recorded door r hs))
  from_made making other hs r is e =
      let twins = made_twins door false making other (λ x. absurd x) (e ∙ ap (λ s. s.n) is) in
      let all = plays hs r (made door other) (record { twins = subst (λ s. Twins door false s (made door other)) (sym is) twins; unmarked = unmarked_made door other }) in
      (all.0, same_but_marks door false _ _ all.1.twins.same)

  alike_prop : IsSet At → (orders : List Order) (s t : State At) → IsProp ((refusals door t orders ≡ 0) × SameButMarks door s (obeyed_all door t orders))
  alike_prop positions orders s t = hlevel (positions, le_prop, ℕ_set, Bool-set, Coded-set (coded_option coded_ℕ))

  after_calls_n : (hs : List Handed) (r : Recording At) → (after_calls door r hs).gate.n ≡ r.gate.n
  after_calls_n [] r = refl
  after_calls_n (h ∷ hs) r = after_calls_n hs (after_call door r h) ∙ after_call_n door r h

  -- a fit gate has no visit begun, so it is a gate just made
  unbegun : (s : State At) → T (is_fit door s) → Unbegun door s
  unbegun s fit i known =
      let r = arm_in s i known in
      let lo = r.0 in
      let hi = r.1 in
      let below : i - 1 < s.n = omega arith in
      let arms = range_with_len 1 s.n in
      let at : get_or arms (i - 1) 0 ≡ i = get_or-range_with_len 1 s.n (i - 1) 0 below ∙ omega arith in
      let one = list_all_at (λ k. eqb (arm_at door s k).visits 0) arms (i - 1) 0 (let long = length-range_with_len 1 s.n in omega arith) in
      let none : eqb (arm_at door s i).visits 0 ≡ true = grind (arith, nat_tests) in
      grind (arith, nat_tests)

  fit_made : Phased door → (s : State At) → T (is_fit door s) → (o : Origin door s) → s ≡ made door o.making
  fit_made phased s fit o = sym o.leads ∙ as_made door phased o.making o.calls (subst (Unbegun door) (sym o.leads) (unbegun s fit))

  replays : IsSet At → Phased door → (s : State At) → IsReached door s → T (is_fit door s) → (hs : List Handed)
      → Replays door (recorded door (begun door s) hs) (after_calls door (begun door s) hs).gate
  replays positions phased s reached fit hs other e =
      ∥∥₁_elim reached (alike_prop positions (recorded door (begun door s) hs) (after_calls door (begun door s) hs).gate (made door other))
      (λ o. from_made o.making other hs (begun door s) (fit_made phased s fit o) (e ∙ after_calls_n hs (begun door s)))

pub law_of_records : {At : Type 0} (door : Table At) → IsSet At → Phased door → ShowsAccesses door → ((n : ℕ) → 1 ≤ door.room n) → (r : Recording At) → LawOfRecords door r
law_of_records door positions phased shown some_room r s past reached fit leads place =
    let some : 1 ≤ s.n = grind (arith, nat_tests) in
    let few = at_most door s.n arm_limit (λ o. (bounded_at door s o).few) reached in
    let start = begun door s in
    let end = after_calls door start past in
    let bytes = written_by door start (groups s.n) past in
    let orders = recorded door start past in
    let file : IsFile end.gate.n end.written bytes orders = many_more door start (groups s.n) [] past (at_start door s some few) place in
    let read = lawful end.gate.n end.written bytes orders file in
    subst (λ x. IsRecord door x bytes orders) leads
    (record { lawful = read.0; is_file = file.is_file; size = file.size; reads_back = read.1; replays = replays door shown some_room positions phased s reached fit past })
