-- The accesses of a door with a plan stay in the room.
use Rattle.std.proofs.Common.{◌≡◌, ℕ, ◌≤◌, Bool, T, sym, refl, subst, arith}
use Rattle.gate_model.specs.Table.{Table}
use Rattle.gate_model.specs.Accesses.{InRoom, ShowsAccesses}
use Rattle.machine.proofs.Machine.{Stance, may_step}
use Rattle.machine.proofs.Invariant.{Own}
use Rattle.simulation.proofs.Layouts.{Deed, rest, ask, look, tell, turn, access_for, deed, tells, looks, turns, rests}
use Rattle.simulation.proofs.Plans.{Plan}
use Rattle.simulation.proofs.Simulates.{access_is}
use Rattle.simulation.proofs.EveryCall.{step_moves, step_sound}

module _ {At : Type 0} {door : Table At} (plan : Plan door) where
  -- the deed of an arm that may step; one that waits looks at one of the n
  deed_stays : (n m i : ℕ) (β : Bool) (arms : ℕ → Stance) → 1 ≤ i → i ≤ n → m ≡ n → (a : Stance) → T (may_step a) → Own m β arms a → (d : Deed) → deed plan.kind a ≡ d → InRoom door n (access_for plan.kind d i)
  deed_stays n m i β arms lo hi e a k own rest q = rests plan.kind a q k
  deed_stays n m i β arms lo hi e a k own ask q = let x = plan.some_room n in omega arith
  deed_stays n m i β arms lo hi e a k own (look c j) q =
      let x = looks plan.kind a c j q in
      let o = subst (Own m β arms) x.1.2 own in
      plan.within n c j x.0 o.0 (subst (λ z. j ≤ z) e o.1)
  deed_stays n m i β arms lo hi e a k own (tell c v) q = let x = tells plan.kind a c v q in (plan.within n c i x.0 lo hi, (let y = plan.high_enough in let z = x.1 in omega arith))
  deed_stays n m i β arms lo hi e a k own (turn v) q = let x = turns plan.kind a v q in let y = plan.high_enough in let z = plan.some_room n in (omega arith, omega arith)

  pub accesses_by : ShowsAccesses door
  accesses_by making past i accepted =
      let r = step_sound plan making past i accepted in
      let h = r.1 in
      let g = h.machine in
      let m = step_moves _ g h.simulates h.keeps i r.0 in
      subst (InRoom door _) (sym (access_is _ g h.simulates i m.lo m.hi)) (deed_stays _ g.n i g.group g.arms m.lo m.hi h.arms_are (g.arms i) m.may (h.keeps.own i) (deed plan.kind (g.arms i)) refl)
