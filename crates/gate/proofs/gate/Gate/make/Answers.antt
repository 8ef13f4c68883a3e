use Rattle.std.proofs.Common.{◌≡◌, ℕ, ◌<◌, ◌≤◌, List, ap, ◌∙◌, arith}
use Rattle.std.proofs.lemmas.Bool.Decides.{nat_tests}
use Rattle.gate_model.proofs.Origins.{reached_made}
use Rattle.bank.specs.Lent.{Lent}
use Rattle.gate_model.specs.Making.{cleared, made_regs, cleared_memory, made_memory}
use Rattle.gate_model.specs.Table.{Table}
use Rattle.gate.proofs.InHand.{in_hand}
use Rattle.gate.proofs.gate.Gate.make.Goals as goal
use Rattle.gate.proofs.gate.Gate.make.Goals.{then-n-gt0, else-n-gt0}

some_made : {At : Type 0} (door : Table At) (n : ℕ) (memory : Lent) (regs : List ℕ) → 0 < n
    → (cleared door (door.room n) regs ≡ made_regs door n regs) × (cleared_memory door (door.room n) memory ≡ made_memory door n memory)
some_made door n memory regs h = (grind (arith, nat_tests), grind (arith, nat_tests))

none_made : {At : Type 0} (door : Table At) (n : ℕ) (memory : Lent) (regs : List ℕ) → n ≤ 0 → (regs ≡ made_regs door n regs) × (memory ≡ made_memory door n memory)
none_made door n memory regs h = (grind (arith, nat_tests), grind (arith, nat_tests))

pub returns-clause-made : goal.returns-clause-made
returns-clause-made g c =
    let door = g.D.Door.table in
    let bank = g.B.Bank in
    let regs = bank.values c.args.bank in
    let memory = bank.memory c.args.bank in
    let n = c.arm_count-n.result in
    let written : (bank.values c.if-n-gt0.bank ≡ made_regs door n regs) × (bank.memory c.if-n-gt0.bank ≡ made_memory door n memory) =
    elim c.if-n-gt0.branch [
      | then-n-gt0 w ↦ (
        ap bank.values w.bank-is ∙ (w.clear.ensures.after ∙ (ap (λ k. cleared door k regs) w.registers.ensures.is ∙ (some_made door n memory regs w.if-n-gt0.true).0)),
        ap bank.memory w.bank-is ∙ (w.clear.ensures.lent ∙ (ap (λ k. cleared_memory door k memory) w.registers.ensures.is ∙ (some_made door n memory regs w.if-n-gt0.true).1)),
      )
      | else-n-gt0 w ↦ (ap bank.values w.bank-is ∙ (none_made door n memory regs w.if-n-gt0.false).0, ap bank.memory w.bank-is ∙ (none_made door n memory regs w.if-n-gt0.false).1)
    ] in
    rw (written.1, written.0, c.fresh_arms.ensures, c.arm_count-n.ensures)

pub invariant_of-result : goal.invariant_of-result
invariant_of-result g c = in_hand g.D.Door.table _ (reached_made g.D.Door.table _ _ (returns-clause-made g c))
