use Rattle.std.proofs.Common.{◌≡◌, ℕ, ◌-◌, ◌<◌, ◌≤◌, cond, ◌&&◌, None, length, get_or, sym, ap, ◌∙◌, subst, arith, rules}
use Rattle.std.proofs.lemmas.List.{get_or_read}
use Rattle.gate_model.specs.Arms.{no_arm, side_of}
use Rattle.gate_model.specs.Calls.{refusal_of, stepped}
use Rattle.gate_model.specs.Phases.{same_phase}
use Rattle.gate_model.specs.Registers.{turns_bit}
use Rattle.gate_model.specs.States.{State, arm_at}
use Rattle.gate_model.proofs.Rests.{rest_set}
use Rattle.gate_model.proofs.Steps.{put_together, step_after}
use Rattle.overtaking.proofs.Turns.{turns_few, exit_turns}
use Rattle.gate_model.specs.declared.call.Call.TheVariants.{Step}
use Rattle.gate_model.specs.declared.phase.Phase.TheVariants as P
use Rattle.gate.proofs.InHand.{after_call}
use Rattle.gate.proofs.gate.Gate.move_on.Goals as goal

-- the records past the last arm are idle
pub follow-requires : goal.follow-requires
follow-requires g c =
    let door = g.met.D.Door in
    let high = subst (λ v. c.args.arm ≤ v.n) (sym c.self.view_is) c.requires.high in
    (search rules, (omega (arith, c.requires.low, high, c.self.invariant.few), (c.self.invariant.few, rest_set g.D.Door.table door.phased _ c.self.invariant.reached c.args.arm _ c.requires.low high)))

pub returns-clause-after : goal.returns-clause-after
returns-clause-after g c =
    let fields = c.self.inside in
    let s : State g.row.D.Denot = record { memory = g.B.Bank.memory fields.bank; high = g.B.Bank.HIGHEST; number = fields.number; n = fields.n; regs = g.B.Bank.values fields.bank; arms = fields.arms; turns = fields.turns } in
    let i = c.args.arm in
    let door = g.D.Door.table in
    let met = g.met.D.Door in
    let high = subst (λ v. i ≤ v.n) (sym c.self.view_is) c.requires.high in
    let may = subst (λ v. refusal_of door v (Step i) ≡ None) (sym c.self.view_is) c.requires.may in
    let at = subst (λ v. c.args.from ≡ (arm_at door v i).position) (sym c.self.view_is) c.requires.at in
    let r = get_or s.arms (i - 1) c.index-self-arm.result in
    let h : i - 1 < length s.arms = omega (arith, c.self.invariant.full, c.self.invariant.few, c.requires.low, high) in
    let is = sym c.index-self-arm.is ∙ get_or_read s.arms (i - 1) c.index-self-arm.result h c.index-self-arm.is (no_arm door) in
    let stands = at ∙ ap (λ a. a.position) (sym is) in
    let access_is = c.access-access.ensures ∙ ap (λ x. door.access i x c.args.from) c.side_value.ensures ∙ ap (door.access i (side_of r.side)) stands in
    let turned = c.make-value.ensures.turned in
    let turn = c.turns.ensures
    ∙ subst (λ b. cond {A = ℕ} (same_phase c.args.phase P.X && b) 1 0 ≡ cond b 1 0) (sym (turned ∙ ap (turns_bit s.high s.regs) (access_is ∙ ap (λ a. door.access i (side_of a.side) a.position) is)))
    (exit_turns door met.phased met.rules met.bits s i c.self.invariant.reached may c.args.phase (c.requires.phase ∙ ap door.phase at)) in
    let e = put_together door s i c.make-value.result.value r c.advance-to.new.arm c.args.phase c.advance-to.result c.access-access.result
    (g.B.Bank.memory c.make-value.new.bank) (g.B.Bank.values c.make-value.new.bank) c.make-value.result.turned c.turns.result c.follow.new.arms
    is (c.requires.phase ∙ ap door.phase stands)
    access_is c.make-value.ensures.value c.make-value.ensures.lent c.make-value.ensures.after turned turn c.advance-to.ensures.after c.advance-to.ensures.phase c.follow.ensures.rows in
    e ∙ ap (stepped door i) c.self.view_is

pub invariant_of-self : goal.invariant_of-self
invariant_of-self g c =
    let door = g.D.Door.table in
    after_call door _ c.args.self.now _ (Step c.args.arm) c.self.invariant c.self.view_is (step_after door c.args.self.now _ c.args.arm c.requires.may (returns-clause-after g c))

-- the count of the turns does not overflow
pub overflow_add-self : goal.overflow_add-self
overflow_add-self g c =
    let door = g.met.D.Door in
    let most = turns_few g.D.Door.table door.phased door.rules door.bits _ c.self.invariant.reached in
    let one : c.turns.result ≤ 1 = let e = c.turns.ensures in grind arith in
    omega (arith, most, one)
