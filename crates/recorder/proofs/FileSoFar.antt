-- What a recorder has written is the file of the orders recorded, which is lawful.
use Rattle.std.proofs.Common.{option_to_list, ◌≡◌, ℕ, ◌+◌, ◌≤◌, cond, is_some, T, All, List, [], ◌∷◌, ◌++◌, length, take, drop, Some, None, Ok, Option, refl, sym, ap, ◌∙◌, append_assoc, add-zero, arith, length-append}
use Rattle.std.proofs.lemmas.Bool.Decides.{nat_tests}
use Rattle.std.proofs.lemmas.List.{take_at, flat_map_more, length-take-le, append-nil}
use Rattle.std.proofs.lemmas.List.Elements.{All-nil, All-append}
use Rattle.gate_model.specs.Calls.{refusal_of}
use Rattle.gate_model.specs.States.{State}
use Rattle.gate_model.specs.Table.{Table}
use Rattle.gate_model.specs.declared.call.Call.{Call}
use Rattle.gate_model.proofs.Accepted.{none_refused}
use Rattle.gate_model.proofs.Unaltered.{after_n}
use Rattle.schedule.specs.declared.order_number.Order.{Order}
use Rattle.schedule.specs.FileLimits.{arm_limit, file_limit}
use Rattle.schedule.specs.Laws.{IsLawful}
use Rattle.schedule.specs.Numbers.{groups}
use Rattle.schedule.specs.Orders.{order_number, arm_of_order}
use Rattle.schedule.specs.Reading.{contents, says}
use Rattle.schedule.specs.Writing.{file_bytes, written_at}
use Rattle.schedule.proofs.FromList.{reads_back}
use Rattle.recorder.proofs.InHand.{groups_few}
use Rattle.recorder.specs.Law.{recorded, bytes_after, written_by, InPlace, begun}
use Rattle.recorder.specs.Recorders.{Recording, Handed, written_as, order_size, written_down, added, after_call, after_calls}

-- so many bytes were written, and they are the file of these orders, each of one of so many arms
pub record IsFile (arms written : ℕ) (bytes : List ℕ) (orders : List Order) : Type 0 where
  pub some : 1 ≤ arms
  pub few : arms ≤ arm_limit
  pub near : All (λ o. arm_of_order o ≤ arms) orders
  pub is_file : bytes ≡ file_bytes arms orders
  pub size : length bytes ≡ written
  pub short : written ≤ file_limit

-- an order can be written behind so many bytes: its arm is one of so many, and two bytes are free, in the memory and up to the longest file
record Fits (arms written : ℕ) (memory : List ℕ) (o : Order) : Type 0 where
  known : arm_of_order o ≤ arms
  room : written + 2 ≤ length memory
  short : written + 2 ≤ file_limit

-- one order more, written behind the others
one_order : (arms written : ℕ) (bytes memory : List ℕ) (orders : List Order) (o : Order) → IsFile arms written bytes orders → Fits arms written memory o → take written memory ≡ bytes
    → IsFile arms (written + length (groups (order_number o))) (take (written + length (groups (order_number o))) (written_at written (groups (order_number o)) memory)) (orders ++ o ∷ [])
one_order arms written bytes memory orders o f fits place =
    let new = groups (order_number o) in
    let size = length-take-le written memory (omega (arith, fits.room)) in
    let ends : length (take written memory ++ new) ≡ written + length new = omega (arith, length-append (take written memory) new) in
    let begins = take_at (take written memory ++ new) (drop (written + length new) memory) (written + length new) ends in
    record {
      some = f.some;
      few = f.few;
      near = All-append (λ x. arm_of_order x ≤ arms) orders (o ∷ []) f.near (λ i d l. grind (arith, fits.known));
      is_file = begins ∙ ap (λ b. b ++ new) (place ∙ f.is_file) ∙ flat_map_more (λ x. groups (order_number x)) (groups arms) orders o;
      size = ap length begins ∙ ends;
      short = omega (arith, groups_few (order_number o), fits.short);
    }

-- the same, if there is an order
one_or_none : (arms written : ℕ) (bytes memory : List ℕ) (orders : List Order) (a : Option Order) → IsFile arms written bytes orders
    → ((o : Order) → a ≡ Some o → Fits arms written memory o) → (T (is_some a) → take written memory ≡ bytes)
    → IsFile arms (written + order_size a) (cond (is_some a) (take (written + order_size a) (written_down a written memory)) bytes) (orders ++ option_to_list a)
one_or_none arms written bytes memory orders None f fits place = rw (append-nil orders, add-zero written) f
one_or_none arms written bytes memory orders (Some o) f fits place = one_order arms written bytes memory orders o f (fits o refl) (place tt)

module _ {At : Type 0} (door : Table At) where
  -- the order of an accepted call is for an arm of the gate
  arm_known : (s : State At) (c : Call) (o : Order) → refusal_of door s c ≡ None → written_as c ≡ Some o → arm_of_order o ≤ s.n
  arm_known s c o e is = grind (arith, nat_tests)

  -- an order that is added fits
  added_fits : (r : Recording At) (h : Handed) (o : Order) → added door r h ≡ Some o → Fits r.gate.n r.written h.memory o
  added_fits r h o e =
      let accepted = none_refused (refusal_of door r.gate h.call) in
      record { known = grind (arith, nat_tests, arm_known r.gate h.call o); room = grind (arith, nat_tests); short = grind (arith, nat_tests) }

  -- a call leaves the arm count
  pub after_call_n : (r : Recording At) (h : Handed) → (after_call door r h).gate.n ≡ r.gate.n
  after_call_n r h = grind (arith, after_n door r.gate h.call)

  -- one call more
  pub one_more : (r : Recording At) (bytes : List ℕ) (orders : List Order) (h : Handed) → IsFile r.gate.n r.written bytes orders
      → (T (is_some (added door r h)) → take r.written h.memory ≡ bytes)
      → IsFile (after_call door r h).gate.n (after_call door r h).written (bytes_after door r bytes h) (orders ++ option_to_list (added door r h))
  one_more r bytes orders h f place =
      rw (after_call_n r h) (one_or_none r.gate.n r.written bytes h.memory orders (added door r h) f (added_fits r h) place)

  -- a list of calls more
  pub many_more : (r : Recording At) (bytes : List ℕ) (orders : List Order) (hs : List Handed) → IsFile r.gate.n r.written bytes orders → InPlace door r bytes hs
      → IsFile (after_calls door r hs).gate.n (after_calls door r hs).written (written_by door r bytes hs) (orders ++ recorded door r hs)
  many_more r bytes orders [] f place = rw (append-nil orders) f
  many_more r bytes orders (h ∷ hs) f place =
      rw (sym (append_assoc orders (option_to_list (added door r h)) (recorded door (after_call door r h) hs)))
      (many_more (after_call door r h) (bytes_after door r bytes h) (orders ++ option_to_list (added door r h)) hs (one_more r bytes orders h f place.0) place.1)

  -- the file as it was started
  pub at_start : (s : State At) → 1 ≤ s.n → s.n ≤ arm_limit → IsFile (begun door s).gate.n (begun door s).written (groups s.n) []
  at_start s some few =
      let small = groups_few s.n in
      record { some = some; few = few; near = All-nil (λ o. arm_of_order o ≤ s.n); is_file = sym (append-nil (groups s.n)); size = refl; short = omega arith }

-- such a file is lawful, and reads back
pub lawful : (arms written : ℕ) (bytes : List ℕ) (orders : List Order) → IsFile arms written bytes orders → IsLawful (contents arms orders) × (says bytes ≡ Ok (contents arms orders))
lawful arms written bytes orders f =
    let is_file = f.is_file in
    let fits : length (file_bytes arms orders) ≤ file_limit = rw (sym is_file) (omega (arith, f.size, f.short)) in
    let l : IsLawful (contents arms orders) =
    record { some_arms = f.some; few_arms = f.few; near_arms = λ i d lt. omega (arith, f.near i d lt, f.few); short = fits } in (
      l,
      ap says is_file ∙ (reads_back (contents arms orders) l).1,
    )
