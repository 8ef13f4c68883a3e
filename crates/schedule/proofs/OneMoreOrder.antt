-- One more order of a file.
use Rattle.std.proofs.Common.{◌≡◌, ℕ, ◌+◌, ◌<◌, ◌≤◌, List, [], ◌∷◌, length, drop, Ok, Err, Result, IsOk, refl, arith, length-drop}
use Rattle.std.proofs.Math.ListN.{drop_of_length-le}
use Rattle.std.proofs.lemmas.List.{drop-drop}
use Rattle.std.proofs.lemmas.Bool.Decides.{nat_tests}
use Rattle.schedule.specs.declared.parts.Placed.{Placed}
use Rattle.schedule.specs.declared.fault.ScheduleFault.{ScheduleFault}
use Rattle.schedule.specs.Numbers.{number_from}
use Rattle.schedule.specs.Orders.{order_number}
use Rattle.schedule.specs.Reading.{order_from, orders_from, orders_at, preceded}
use Rattle.schedule.proofs.Groups.{span, ends, Ends, number_ends, number_of_order}

-- an order is the number that it has
pub order_is : (place count : ℕ) (bytes : List ℕ) (p : Placed) → order_from place count bytes ≡ Ok p → number_from place bytes ≡ Ok (ends (order_number p.order) p.next)
order_is place count bytes p e = grind (arith, nat_tests, number_of_order)

pub order_ends : (place count : ℕ) (bytes : List ℕ) (p : Placed) → order_from place count bytes ≡ Ok p → Ends place bytes (ends (order_number p.order) p.next)
order_ends place count bytes p e = number_ends place bytes (ends (order_number p.order) p.next) (order_is place count bytes p e)

-- the orders from a place on are the one there and those after it
pub orders_step : (place count : ℕ) (bytes : List ℕ) (p : Placed) → order_from place count bytes ≡ Ok p
    → orders_from place count bytes ≡ preceded p.order (orders_from p.next (count + 1) (drop (span bytes) bytes))
unfolding orders_from
orders_step place count [] p e = absurd (grind arith)
orders_step place count (low ∷ []) p e = let h = order_ends place count (low ∷ []) p e in grind (arith, nat_tests)
orders_step place count (low ∷ high ∷ rest) p e = let h = order_ends place count (low ∷ high ∷ rest) p e in grind (arith, nat_tests)

pub orders_fault : (place count : ℕ) (bytes : List ℕ) (f : ScheduleFault) → 0 < length bytes → order_from place count bytes ≡ Err f → orders_from place count bytes ≡ Err f
unfolding orders_from
orders_fault place count bytes f l e = grind arith

pub orders_end : (place count : ℕ) → orders_from place count [] ≡ Ok []
unfolding orders_from
orders_end place count = refl

-- the same at a place of a file
module _ (file : List ℕ) (at count : ℕ) (p : Placed) (e : order_from at count (drop at file) ≡ Ok p) where
  pub step_at : orders_from at count (drop at file) ≡ preceded p.order (orders_from p.next (count + 1) (drop p.next file))
  step_at =
      let s = orders_step at count (drop at file) p e in
      let n = order_ends at count (drop at file) p e in
      grind (arith, drop-drop {A = ℕ})

  pub next_at : (at < p.next) × (p.next ≤ length file)
  next_at =
      let h = order_ends at count (drop at file) p e in
      let l = length-drop at file in
      (omega arith, omega arith)

-- orders without a fault begin with the one there, and those after it have no fault either
module _ (file : List ℕ) (at count : ℕ) (p : Placed) (sound : IsOk (orders_from at count (drop at file))) (e : order_from at count (drop at file) ≡ Ok p) where
  pub next_sound : IsOk (orders_from p.next (count + 1) (drop p.next file))
  next_sound = let s = step_at file at count p e in grind arith

  pub next_first : orders_at file at count ≡ p.order ∷ orders_at file p.next (count + 1)
  next_first = let s = step_at file at count p e in grind arith

-- before the end there is one, and at the end none is left
pub one_more_order : (file : List ℕ) (at count : ℕ) (r : Result Placed ScheduleFault) → IsOk (orders_from at count (drop at file)) → at < length file → r ≡ order_from at count (drop at file) → IsOk r
one_more_order file at count r sound before e =
    let l = length-drop at file in grind (arith, orders_fault at count (drop at file))

pub none_left : (file : List ℕ) (at count : ℕ) → length file ≤ at → orders_at file at count ≡ []
none_left file at count past = let d = drop_of_length-le file past in let k = orders_end at count in cc

-- what a call of `next` does
pub ruleset next_order = (next_sound, next_first, one_more_order, none_left, next_at)
