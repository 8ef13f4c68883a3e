-- Orders at two gates that go the same way come to the same.
use Rattle.std.proofs.Common.{◌≡◌, ℕ, ◌+◌, ◌≤◌, true, if◌then◌else◌, is_some, List, [], ◌∷◌, sym, refl, subst}
use Rattle.gate_model.specs.Accesses.{ShowsAccesses}
use Rattle.gate_model.specs.Calls.{refusal_of, after, unless, left_at_once}
use Rattle.gate_model.specs.States.{State}
use Rattle.gate_model.specs.Table.{Table}
use Rattle.gate_model.specs.declared.call.Call.TheVariants.{Begin as begin, Step as step, Admit as admit, Leave as leave}
use Rattle.gate_model.proofs.Twins.{Twins, same_refusal, unless_same, after_twins}
use Rattle.schedule.specs.declared.order_number.Order.{Order}
use Rattle.schedule.specs.declared.order_number.Order.TheVariants.{Begin, Step, Leave}
use Rattle.obeying.specs.Obeying.{order_refusal, obeyed, obeyed_all, refusals, each_refusal}

module _ {At : Type 0} (door : Table At) (shown : ShowsAccesses door) (some_room : (n : ℕ) → 1 ≤ door.room n) where
  -- one order
  order_same : (s t : State At) (o : Order) → Twins door true s t → order_refusal door t o ≡ order_refusal door s o
  order_same s t (Begin i) h = same_refusal door true s t (begin i) h.same tt
  order_same s t (Step i) h = same_refusal door true s t (step i) h.same tt
  order_same s t (Leave i) h = same_refusal door true s t (admit i) h.same tt

  obeyed_twins : (s t : State At) (o : Order) → Twins door true s t → Twins door true (obeyed door s o) (obeyed door t o)
  obeyed_twins s t (Begin i) h = after_twins door shown some_room true s t (begin i) tt h
  obeyed_twins s t (Step i) h = after_twins door shown some_room true s t (step i) tt h
  obeyed_twins s t (Leave i) h =
      let x = after door s (admit i) in
      let y = after door t (admit i) in
      let left = after_twins door shown some_room true x y (leave s.number i) tt (after_twins door shown some_room true s t (admit i) tt h) in
      let other_left = subst (λ k. Twins door true (after door x (leave s.number i)) (after door y (leave k i))) (sym (h.same.number tt)) left in
      subst (λ r. Twins door true (left_at_once door s i) (unless r (after door y (leave t.number i)) t)) (sym (same_refusal door true s t (admit i) h.same tt))
      (unless_same door (Twins door true) (refusal_of door s (admit i)) _ s _ t (λ _. other_left) h)

  -- all orders
  pub all_twins : (s t : State At) (os : List Order) → Twins door true s t → Twins door true (obeyed_all door s os) (obeyed_all door t os)
  all_twins s t [] h = h
  all_twins s t (o ∷ os) h = all_twins (obeyed door s o) (obeyed door t o) os (obeyed_twins s t o h)

  pub each_same : (s t : State At) (os : List Order) → Twins door true s t → each_refusal door t os ≡ each_refusal door s os
  each_same s t [] h = refl
  each_same s t (o ∷ os) h = λ i. order_same s t o h i ∷ each_same (obeyed door s o) (obeyed door t o) os (obeyed_twins s t o h) i

  pub count_same : (s t : State At) (os : List Order) → Twins door true s t → refusals door t os ≡ refusals door s os
  count_same s t [] h = refl
  count_same s t (o ∷ os) h = λ i. (if is_some (order_same s t o h i) then 1 else 0) + count_same (obeyed door s o) (obeyed door t o) os (obeyed_twins s t o h) i
