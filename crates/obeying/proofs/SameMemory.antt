-- Orders leave the bank over the memory that it was over.
use Rattle.std.proofs.Common.{◌≡◌, List, [], ◌∷◌, refl, ◌∙◌, arith}
use Rattle.gate_model.specs.Table.{Table}
use Rattle.gate_model.specs.States.{State}
use Rattle.schedule.specs.declared.order_number.Order.{Order}
use Rattle.obeying.specs.Obeying.{obeyed, obeyed_all}

module _ {At : Type 0} (door : Table At) where
  obeyed_name : (s : State At) (o : Order) → (obeyed door s o).memory.name ≡ s.memory.name
  obeyed_name s o = grind arith

  pub obeyed_all_name : (s : State At) (os : List Order) → (obeyed_all door s os).memory.name ≡ s.memory.name
  obeyed_all_name s [] = refl
  obeyed_all_name s (o ∷ os) = obeyed_all_name (obeyed door s o) os ∙ obeyed_name s o
