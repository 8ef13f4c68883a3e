-- What a deed leaves in the registers.
use Rattle.std.proofs.Common.{◌≡◌, ℕ, ◌<◌, ◌≤◌, Bool, eqb, ◌≢◌, List, length, get_or, sym, refl, ap, ◌∙◌, arith, eqb→eq}
use Rattle.std.proofs.lemmas.Bool.Decides.{nat_tests}
use Rattle.std.proofs.lemmas.List.{length-set, get_or-set_same, get_or-set_other}
use Rattle.bank.specs.Registers.{written}
use Rattle.gate_model.specs.Registers.{group, value_read, regs_after}
use Rattle.gate_model.specs.Table.{Table}
use Rattle.gate_model.proofs.Bools.{by, ne_test}
use Rattle.machine.specs.Kinds.{Kind}
use Rattle.machine.proofs.Machine.{Stance}
use Rattle.simulation.proofs.Layouts.{bit_number, Deed, ask, look, tell, turn, turned_by, told_by, access_for, read_by_deed, cells, cell, holds, deed, tells, turns, apart, past_bit}
use Rattle.simulation.proofs.Plans.{Plan}

-- a write to a register that the bank has, of a value that it holds
written_same : (high : ℕ) (regs : List ℕ) (q v : ℕ) → q < length regs → v ≤ high → get_or (written high regs q v) q 0 ≡ v
written_same high regs q v l h = grind (arith, nat_tests, get_or-set_same)

written_other : (high : ℕ) (regs : List ℕ) (q v z : ℕ) → z ≢ q → get_or (written high regs q v) z 0 ≡ get_or regs z 0
written_other high regs q v z ne = grind (arith, get_or-set_other)

pub same_length : (δ : Kind) (high : ℕ) (regs : List ℕ) (d : Deed) (i : ℕ) → length (regs_after high regs (access_for δ d i)) ≡ length regs
same_length δ high regs d i = grind (arith, length-set {A = ℕ})

module _ {At : Type 0} (door : Table At) (plan : Plan door) (high n : ℕ) (regs : List ℕ) (fits : door.room n ≤ length regs) (holds_it : door.needed ≤ high) (a : Stance) (i : ℕ) (lo : 1 ≤ i) (hi : i ≤ n) where
  abbrev now : Deed → List ℕ
  now d = regs_after high regs (access_for plan.kind d i)

  pub bit_after : (d : Deed) → deed plan.kind a ≡ d → get_or (now d) group 0 ≡ turned_by d (get_or regs group 0)
  bit_after (tell c v) e = written_other high regs (cell plan.kind c i) v group (λ q. past_bit plan.kind c i (tells plan.kind a c v e).0 lo (sym q))
  bit_after (turn v) e = written_same high regs group v (let x = plan.some_room n in omega arith) (let x = turns plan.kind a v e in let y = plan.high_enough in omega arith)
  bit_after d e = refl

  pub others_after : (d : Deed) → deed plan.kind a ≡ d → (c k : ℕ) → c < cells plan.kind → 1 ≤ k → k ≢ i → get_or (now d) (cell plan.kind c k) 0 ≡ get_or regs (cell plan.kind c k) 0
  others_after (tell c' v) e c k low klo ne = written_other high regs (cell plan.kind c' i) v (cell plan.kind c k) (λ q. ne (apart plan.kind c c' k i low (tells plan.kind a c' v e).0 klo lo q).1)
  others_after (turn v) e c k low klo ne = written_other high regs group v (cell plan.kind c k) (past_bit plan.kind c k low klo)
  others_after d e c k low klo ne = refl

  pub own_after : (d : Deed) → deed plan.kind a ≡ d → (c : ℕ) → c < cells plan.kind → get_or (now d) (cell plan.kind c i) 0 ≡ told_by c d (get_or regs (cell plan.kind c i) 0)
  own_after (tell c' v) e c low =
      let x = tells plan.kind a c' v e in
      by (λ r. get_or (now (tell c' v)) (cell plan.kind c i) 0 ≡ r) (eqb c c') v (get_or regs (cell plan.kind c i) 0)
      (λ t. ap (λ z. get_or (now (tell c' v)) (cell plan.kind z i) 0) (eqb→eq c c' t) ∙ written_same high regs (cell plan.kind c' i) v (let y = plan.within n c' i x.0 lo hi in omega arith) (let y = plan.high_enough in omega arith))
      (λ t. written_other high regs (cell plan.kind c' i) v (cell plan.kind c i) (λ q. ne_test c c' t (apart plan.kind c c' i i low x.0 lo lo q).0))
  own_after (turn v) e c low = written_other high regs group v (cell plan.kind c i) (past_bit plan.kind c i low lo)
  own_after d e c low = refl

  -- the value read, where the registers say what the machine's arms are
  pub value_seen : (d : Deed) → deed plan.kind a ≡ d → (β : Bool) (arms : ℕ → Stance) → get_or regs group 0 ≡ bit_number β → ((c j : ℕ) → d ≡ look c j → get_or regs (cell plan.kind c j) 0 ≡ holds plan.kind c (arms j))
      → value_read regs (access_for plan.kind d i) ≡ read_by_deed plan.kind β arms d
  value_seen ask e β arms b h = b
  value_seen (look c j) e β arms b h = h c j refl
  value_seen d e β arms b h = refl
