-- What the reader has found out on its way through a file.
use Rattle.std.proofs.Common.{◌≡◌, ℕ, ◌<◌, ◌≤◌, length-drop, ◌+◌, List, length, drop, Ok, Err, Result, arith}
use Rattle.std.proofs.Math.ListN.{drop_of_length-le}
use Rattle.schedule.specs.declared.order_number.Order.{Order}
use Rattle.schedule.specs.declared.parts.Placed.{Placed}
use Rattle.schedule.specs.declared.fault.ScheduleFault.{ScheduleFault}
use Rattle.schedule.proofs.OneMoreOrder.{step_at, next_at, orders_fault, orders_end}
use Rattle.schedule.specs.Reading.{order_from, orders_from, order_count}

-- how many orders there are, after some that are counted already
abbrev pub count_after : ℕ → Result (List Order) ScheduleFault → Result ℕ ScheduleFault
count_after n (Ok os) = Ok (n + length os)
count_after n (Err f) = Err f

pub count_tally : (r : Result (List Order) ScheduleFault) → order_count r ≡ count_after 0 r
count_tally r = grind arith

-- at a place of a file: one order more, a fault, and the end
module _ (file : List ℕ) (at n : ℕ) where
  pub count_more : (p : Placed) → order_from at (n + 1) (drop at file) ≡ Ok p
      → count_after n (orders_from at (n + 1) (drop at file)) ≡ count_after (n + 1) (orders_from p.next (n + 1 + 1) (drop p.next file))
  count_more p e = let s = step_at file at (n + 1) p e in grind arith

  pub count_fault : (f : ScheduleFault) → at < length file → order_from at (n + 1) (drop at file) ≡ Err f
      → count_after n (orders_from at (n + 1) (drop at file)) ≡ Err f
  count_fault f l e = let d = length-drop at file in grind (arith, orders_fault at (n + 1) (drop at file) f)

  pub count_end : length file ≤ at → count_after n (orders_from at (n + 1) (drop at file)) ≡ Ok n
  count_end l = let d = drop_of_length-le file l in let k = orders_end at (n + 1) in grind arith

pub ruleset counting = (count_tally, count_more, count_fault, count_end, next_at)
