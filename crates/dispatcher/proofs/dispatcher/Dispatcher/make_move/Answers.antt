use Rattle.std.proofs.Common.{◌≡◌, Some, None, subst, sym, refl, ap, ◌∙◌, rules, arith}
use Rattle.gate_model.proofs.Bools.{is_true}
use Rattle.gate_model.proofs.Unaltered.{run_n}
use Rattle.ring.specs.Rings.{items}
use Rattle.dispatcher.specs.Dispatchers.{NoPassOut}
use Rattle.dispatcher.specs.Moves.{is_busy, in_turn, opening}
use Rattle.dispatcher.proofs.MoveByCalls.{move_by}
use Rattle.dispatcher.proofs.CyclicOrder.{found_yes}
use Rattle.dispatcher.proofs.Served.{led, law_of_moves}
use Rattle.dispatcher.proofs.NoPassOut.{opening_spent}
use Rattle.dispatcher.proofs.dispatcher.Dispatcher.make_move.Goals as goal

-- the arm served last is one of the gate's still
pub first_busy-requires : goal.first_busy-requires
first_busy-requires g c =
    let n : c.begin_asked.new.gate.n ≡ c.self.inside.gate.n = ap (λ s. s.n) c.begin_asked.ensures.gate ∙ run_n g.D.Door.table (opening (items c.args.asked.now)) c.self.inside.gate in
    (search rules, omega (arith, n, c.self.invariant.within))

-- all arms are idle
pub invariant_of-self : goal.invariant_of-self
invariant_of-self g c = led g.D.Door.table _ (items c.args.asked.now) _ (move_by g.D.Door.table _ _ _ _ None c.begin_asked.ensures.gate (sym c.first_busy.ensures ∙ c.in_default.is) refl) c.self.invariant

pub returns-in_default-clause-law : goal.returns-in_default-clause-law
returns-in_default-clause-law g c = let door = g.met.D.Door in law_of_moves g.D.Door.table door.phased door.rules door.way _ (invariant_of-self g c)

-- an arm is served
pub serve-requires : goal.serve-requires
serve-requires g c =
    let table = g.D.Door.table in
    let s = c.begin_asked.new.gate in
    let busy = found_yes (is_busy table s) (in_turn s.n c.self.inside.last) c.in-Some.arm (sym c.first_busy.ensures ∙ c.in-Some.is) in
    let spent = opening_spent table c.self.inside.gate (items c.args.asked.now) c.self.invariant.spent in
    (search rules, (is_true (is_busy table s c.in-Some.arm) busy, subst (NoPassOut table) (sym c.begin_asked.ensures.gate) spent))

pub returns-clause-after : goal.returns-clause-after
returns-clause-after g c = rw (← c.self.view_is) (move_by g.D.Door.table _ _ _ _ (Some c.in-Some.arm) c.begin_asked.ensures.gate (sym c.first_busy.ensures ∙ c.in-Some.is) c.serve.ensures.gate)

pub invariant_of-self-2 : goal.invariant_of-self-2
invariant_of-self-2 g c = led g.D.Door.table _ (items c.args.asked.now) _ (returns-clause-after g c) (rw (← c.self.view_is) c.self.invariant)

pub returns-clause-law : goal.returns-clause-law
returns-clause-law g c = let door = g.met.D.Door in law_of_moves g.D.Door.table door.phased door.rules door.way _ (invariant_of-self-2 g c)
