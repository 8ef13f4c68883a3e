-- A call, accepted or refused, leaves the file at the start of the memory that came with it.
use Rattle.std.proofs.Common.{◌≡◌, ℕ, ◌+◌, ◌≤◌, Bool, true, false, T, ◌&&◌, not, if◌then◌else◌, List, [], ◌∷◌, ◌++◌, length, take, Some, None, Option, is_some, sym, refl, ap, ap₂, subst, ◌∙◌, arith}
use Rattle.std.proofs.lemmas.Grind.{common_steps}
use Rattle.std.proofs.lemmas.Bool.Decides.{nat_tests}
use Rattle.gate_model.specs.History.{accepted}
use Rattle.gate_model.specs.States.{State}
use Rattle.gate_model.specs.Table.{Table}
use Rattle.gate_model.specs.declared.call.Call.{Call}
use Rattle.recorder.proofs.InHand.{groups_few, after_calls_append}
use Rattle.recorder.specs.Kept.{Kept, HoldsRecord, LawInHand}
use Rattle.recorder.specs.Law.{InPlace, IsRecord, LawOfRecords, begun, bytes_after, recorded, written_by}
use Rattle.recorder.specs.Recorders.{Recording, Handed, handed, written_as, order_size, written_down, has_room, added, after_call, memory_after, after_calls}
use Rattle.recorder.specs.declared.refusal.Refusal.TheVariants.{FileFull, UnfitGate}
use Rattle.schedule.specs.Numbers.{groups}
use Rattle.schedule.specs.Orders.{order_number}
use Rattle.schedule.specs.Writing.{written_at}
use Rattle.schedule.specs.declared.order_number.Order.{Order}

-- an order is written only where two bytes are free
had_room : (fit room accepts : Bool) (o : Option Order) → T (is_some (if not (is_some (if fit then (if is_some o && not room then Some FileFull else None) else Some UnfitGate)) && accepts then o else None)) → T room
had_room fit true accepts o t = tt
had_room true false accepts (Some o) t = t
had_room true false true None t = t
had_room true false false None t = t
had_room false false accepts o t = t

-- the bytes written by now are the first ones of the memory
first_bytes : (o : Option Order) (at : ℕ) (memory : List ℕ) → take (at + order_size o) (written_down o at memory) ≡ (if is_some o then take (at + order_size o) (written_down o at memory) else take at memory)
first_bytes None at memory = ap (λ n. take n memory) (omega arith)
first_bytes (Some o) at memory = refl

pub written_within : (bytes memory : List ℕ) (at : ℕ) → length bytes ≤ 2 → at + 2 ≤ length memory → at + length bytes ≤ length (written_at at bytes memory)
written_within bytes memory at short room = grind (arith, common_steps)

within_memory : (o : Option Order) (at : ℕ) (memory : List ℕ) → (T (is_some o) → at + 2 ≤ length memory) → at ≤ length memory → at + order_size o ≤ length (written_down o at memory)
within_memory None at memory room within = omega (arith, within)
within_memory (Some o) at memory room within = written_within (groups (order_number o)) memory at (groups_few (order_number o)) (room tt)

module _ {At : Type 0} (door : Table At) where
  written_more : (r : Recording At) (bytes : List ℕ) (past : List Handed) (h : Handed) → written_by door r bytes (past ++ h ∷ []) ≡ bytes_after door (after_calls door r past) (written_by door r bytes past) h
  written_more r bytes [] h = refl
  written_more r bytes (x ∷ past) h = written_more (after_call door r x) (bytes_after door r bytes x) past h

  in_place_more : (r : Recording At) (bytes : List ℕ) (past : List Handed) (h : Handed) → InPlace door r bytes past
      → (T (is_some (added door (after_calls door r past) h)) → take (after_calls door r past).written h.memory ≡ written_by door r bytes past)
      → InPlace door r bytes (past ++ h ∷ [])
  in_place_more r bytes [] h in_place here = (here, tt)
  in_place_more r bytes (x ∷ past) h (first, rest) here = (first, in_place_more (after_call door r x) (bytes_after door r bytes x) past h rest here)

  room_left : (r : Recording At) (h : Handed) → T (is_some (added door r h)) → r.written + 2 ≤ length h.memory
  room_left r h t =
      let room : T (has_room r.written (length h.memory)) = had_room r.fit (has_room r.written (length h.memory)) (accepted door r.gate h.call) (written_as h.call) t in
      grind (arith, nat_tests, room)

  call_keeps : (gate : State At) (r : Recording At) (memory : List ℕ) (call : Call) → Kept door gate r memory
      → Kept door gate (after_call door r (handed call memory)) (memory_after door r (handed call memory))
  call_keeps gate r memory call k =
      let h = handed call memory in
      let start = begun door gate in
      let bytes = groups gate.n in
      record {
        past = k.past ++ h ∷ [];
        leads = after_calls_append door k.past h start ∙ ap (λ x. after_call door x h) k.leads;
        in_place = in_place_more start bytes k.past h k.in_place (λ _. ap (λ x. take x.written memory) k.leads ∙ k.bytes);
        bytes = first_bytes (added door r h) r.written memory ∙ sym (written_more start bytes k.past h ∙ ap₂ (λ x b. bytes_after door x b h) k.leads (sym k.bytes));
        within = within_memory (added door r h) r.written memory (room_left r h) k.within;
      }

  pub kept_as : (gate : State At) (r s : Recording At) (memory left : List ℕ) → s ≡ r → left ≡ memory → Kept door gate r memory → Kept door gate s left
  kept_as gate r s memory left e f k =
      let written : s.written ≡ r.written = ap (λ x. x.written) e in
      let size : length left ≡ length memory = ap length f in
      record {
        past = k.past;
        leads = k.leads ∙ sym e;
        in_place = k.in_place;
        bytes = ap₂ take written f ∙ k.bytes;
        within = omega (arith, k.within, written, size);
      }

  -- of a recorder and memory that a call left so
  pub kept_after : (r s : Recording At) (memory left : List ℕ) (call : Call) → s ≡ after_call door r (handed call memory) → left ≡ memory_after door r (handed call memory)
      → HoldsRecord door r memory → HoldsRecord door s left
  kept_after r s memory left call e f (gate, reached, fit, k) = (gate, reached, fit, kept_as gate _ s _ left e f (call_keeps gate r memory call k))

  -- what was written and stands in place is a record, by the law
  pub in_hand : (r : Recording At) → LawOfRecords door r → LawInHand door r
  in_hand r law memory (gate, reached, fit, k) =
      let start = begun door gate in
      let orders = recorded door start k.past in
      (orders, subst (λ bytes. IsRecord door r bytes orders) (sym k.bytes) (law gate k.past reached fit k.leads k.in_place))
