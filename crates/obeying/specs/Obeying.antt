-- What a gate makes of the orders of a schedule.
use Rattle.std.specs.Prelude.{ℕ, ◌+◌, List, [], ◌∷◌, Option, is_some, if◌then◌else◌}
use Rattle.gate_model.specs.Calls.{refusal_of, after, left_at_once}
use Rattle.gate_model.specs.Table.{Table}
use Rattle.gate_model.specs.States.{State}
use Rattle.gate_model.specs.declared.call.Call.TheVariants.{Begin as begin, Step as step, Admit as admit}
use Rattle.gate_model.specs.declared.refusal.Refusal.{Refusal}
use Rattle.schedule.specs.declared.order_number.Order.{Order}
use Rattle.schedule.specs.declared.order_number.Order.TheVariants.{Begin, Step, Leave}

module _ {At : Type 0} (door : Table At) where
  -- why the gate refuses an order; none where it obeys
  abbrev pub order_refusal : State At → Order → Option Refusal
  order_refusal s (Begin i) = refusal_of door s (begin i)
  order_refusal s (Step i) = refusal_of door s (step i)
  order_refusal s (Leave i) = refusal_of door s (admit i)

  -- the gate after an order; a leave order admits and leaves
  abbrev pub obeyed : State At → Order → State At
  obeyed s (Begin i) = after door s (begin i)
  obeyed s (Step i) = after door s (step i)
  obeyed s (Leave i) = left_at_once door s i

  -- the gate after all orders, and how many it refused
  abbrev pub obeyed_all : State At → List Order → State At
  obeyed_all s [] = s
  obeyed_all s (o ∷ os) = obeyed_all (obeyed s o) os

  abbrev pub refusals : State At → List Order → ℕ
  refusals s [] = 0
  refusals s (o ∷ os) = (if is_some (order_refusal s o) then 1 else 0) + refusals (obeyed s o) os

  -- why the gate refuses each of the orders, one after another; none where it obeys
  abbrev pub each_refusal : State At → List Order → List (Option Refusal)
  each_refusal s [] = []
  each_refusal s (o ∷ os) = order_refusal s o ∷ each_refusal (obeyed s o) os
