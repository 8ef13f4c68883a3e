-- What is written one order at a time is what the writer makes of the whole list.
use Rattle.std.proofs.Common.{◌≡◌, ℕ, ◌+◌, if◌then◌else◌, nat_le, List, [], ◌∷◌, ◌++◌, length, take, drop, Ok, Err, Result, append_assoc, sym, ap, arith, length-append}
use Rattle.std.proofs.lemmas.List.{take_at, flat_map_more, length-take-le}
use Rattle.std.proofs.lemmas.List.Folds.{list_all-append}
use Rattle.std.proofs.lemmas.Bool.Decides.{nat_tests}
use Rattle.schedule.specs.declared.order_number.Order.{Order}
use Rattle.schedule.specs.declared.writer.WriteRefusal.{WriteRefusal}
use Rattle.schedule.specs.declared.writer.WriteRefusal.TheVariants.{Large}
use Rattle.schedule.specs.FileLimits.{largest_number}
use Rattle.schedule.specs.Laws.{bytes_of, HoldsFile, IsAsWritten, WasStarted, WasAppended, with_order}
use Rattle.schedule.specs.Numbers.{groups}
use Rattle.schedule.specs.Orders.{order_number}
use Rattle.schedule.specs.Reading.{Contents, contents}
use Rattle.schedule.specs.Writing.{if_short, file_of, length_of, write_answer, write_memory, written_at, append_answer, append_memory}
use Rattle.schedule.proofs.Inverse.{was_written}

as_written : (answer : Result ℕ WriteRefusal) (c : Contents) (before after : List ℕ) → answer ≡ write_answer c.arms c.orders (length before) → after ≡ write_memory c.arms c.orders before
    → IsAsWritten answer c before after
as_written (Ok end) c before after a m =
    let bytes = bytes_of c in
    let rest = drop (length bytes) before in
    let is_file : file_of c.arms c.orders ≡ Ok bytes = grind (arith, nat_tests) in
    let ends : end ≡ length bytes = grind (arith, nat_tests) in
    let memory : after ≡ bytes ++ rest = grind (arith, nat_tests) in
    let begins = take_at bytes rest end (sym ends) in
    record {
      answer = a;
      memory = m;
      holds = record { is_file = cc; within = grind (arith, length-append {A = ℕ}) };
      reads_back = was_written c.arms c.orders before after (length bytes) end (sym (ap length_of is_file)) ends memory;
    }
as_written (Err refusal) c before after a m = record { answer = a; memory = m; holds = tt; reads_back = tt }

-- a file of no orders
pub started : (answer : Result ℕ WriteRefusal) (arms : ℕ) (before after : List ℕ) → answer ≡ write_answer arms [] (length before) → after ≡ write_memory arms [] before
    → WasStarted answer arms before after
started answer arms before after a m = as_written answer (contents arms []) before after a m

-- one order more after the file of a list
pub appended : (answer : Result ℕ WriteRefusal) (order : Order) (at : ℕ) (before after : List ℕ) → answer ≡ append_answer order at (length before) → after ≡ append_memory order at before
    → WasAppended answer order at before after
appended answer order at before after a m = record { to_file = grown }
  where
    grown : (c : Contents) → HoldsFile c before at → IsAsWritten answer (with_order c order) before after
    grown c h =
        let bytes = groups (order_number order) in
        let file = take at before in
        let size = length-take-le at before h.within in
        let joined = append_assoc file bytes (drop (at + length bytes) before) in
        let longer = flat_map_more (λ o. groups (order_number o)) (groups c.arms) c.orders order in
        let small = list_all-append (λ o. nat_le (order_number o) largest_number) c.orders (order ∷ []) in
        let e = h.is_file in
        let is : file_of c.arms (c.orders ++ order ∷ []) ≡ (if nat_le (order_number order) largest_number then if_short (file ++ bytes) else Err Large) =
        grind (arith, nat_tests) in
        as_written answer (with_order c order) before after (grind (arith, nat_tests, length-append {A = ℕ})) (grind (arith, nat_tests, length-append {A = ℕ}))

-- the same, of an order that was written at its place
pub put_appended : (end : ℕ) (order : Order) (at : ℕ) (before after : List ℕ) → Ok end ≡ append_answer order at (length before)
    → after ≡ written_at at (groups (order_number order)) before → WasAppended (Ok end) order at before after
put_appended end order at before after a m = appended (Ok end) order at before after a (grind (arith, nat_tests))
