-- A number and its groups, an order and its number: each way back.
use Rattle.std.proofs.Common.{◌≡◌, ℕ, ◌+◌, ◌<◌, ◌≤◌, cond, ltb, List, [], ◌∷◌, ◌++◌, length, drop, Some, Ok, arith}
use Rattle.std.specs.List.{All}
use Rattle.std.proofs.lemmas.Bool.Decides.{nat_tests}
use Rattle.schedule.specs.declared.order_number.Order.{Order}
use Rattle.schedule.specs.declared.number.Number.{Number}
use Rattle.schedule.specs.FileLimits.{largest_number, largest_arm}
use Rattle.schedule.specs.Laws.{IsBytes}
use Rattle.schedule.specs.Numbers.{groups, number_from}
use Rattle.schedule.specs.Orders.{order_number, order_of, arm_of_order}

-- how many bytes a number has
abbrev pub span : List ℕ → ℕ
span [] = 0
span (low ∷ rest) = cond (ltb low 128) 1 2

abbrev pub ends : ℕ → ℕ → Number
ends value next = record { value = value; next = next }

-- the number that groups begin with
pub number_of_groups : (place k : ℕ) (rest : List ℕ) → k ≤ largest_number → number_from place (groups k ++ rest) ≡ Ok (ends k (place + length (groups k)))
number_of_groups place k rest h = grind (arith, nat_tests)

pub groups_bytes : (k : ℕ) → k ≤ largest_number → IsBytes (groups k)
groups_bytes k h = grind (arith, nat_tests)

-- no arm is above 4,095
abbrev pub Near : List Order → Type 0
Near os = All (λ o. arm_of_order o ≤ largest_arm) os

pub order_of_number : (o : Order) → order_of (order_number o) ≡ Some o
order_of_number o = grind (arith, nat_tests)

pub number_near : (o : Order) → arm_of_order o ≤ largest_arm → order_number o ≤ largest_number
number_near o h = grind arith

pub near_number : (o : Order) → order_number o ≤ largest_number → arm_of_order o ≤ largest_arm
near_number o h = grind arith

pub number_of_order : (k : ℕ) (o : Order) → order_of k ≡ Some o → order_number o ≡ k
number_of_order k o e = grind (arith, nat_tests)

-- a number that is read is its groups
pub record Grouped (bytes : List ℕ) (n : Number) : Type 0 where
  pub small : n.value ≤ largest_number
  pub are : bytes ≡ groups n.value ++ drop (span bytes) bytes

pub groups_of_number : (place : ℕ) (bytes : List ℕ) (n : Number) → IsBytes bytes → number_from place bytes ≡ Ok n → Grouped bytes n
groups_of_number place bytes n b e =
    let s = b 0 0 in
    record { small = grind (arith, nat_tests); are = grind (arith, nat_tests) }

-- and the place after it is as many bytes on as it has
pub record Ends (place : ℕ) (bytes : List ℕ) (n : Number) : Type 0 where
  pub next_is : n.next ≡ place + span bytes
  pub within : span bytes ≤ length bytes
  pub some : 0 < span bytes

pub number_ends : (place : ℕ) (bytes : List ℕ) (n : Number) → number_from place bytes ≡ Ok n → Ends place bytes n
number_ends place bytes n e = record { next_is = grind (arith, nat_tests); within = grind (arith, nat_tests); some = grind (arith, nat_tests) }
