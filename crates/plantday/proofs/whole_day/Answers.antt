use Rattle.std.proofs.Common.{◌≡◌, ◌++◌, rules, sym, subst, ap, ◌∙◌, arith}
use Rattle.std.proofs.lemmas.Bool.Decides.{nat_tests}
use Rattle.gate_model.specs.Calls.{run}
use Rattle.gate_model.specs.Law.{Fair}
use Rattle.gate_model.specs.Making.{Making}
use Rattle.gate_model.specs.States.{State, made}
use Rattle.gate_model.specs.Table.{Table}
use Rattle.gate_model.specs.Turns.{TurnsTold}
use Rattle.gate_model.proofs.Origins.{run_append}
use Rattle.gate_model.proofs.Unaltered.{run_n, memory_name}
use Rattle.overtaking.proofs.Fairness.{fair}
use Rattle.overtaking.proofs.Turns.{turns_told}
use Rattle.plantday.specs.Day.{of_plant, Called}
use Rattle.plantday.specs.Turns.{day_turns, turns_of, Plant, plant, day_of}
use Rattle.plantday.proofs.TurnByPhase.{turns_on}
use Rattle.plantday.proofs.whole_day.Given.{Over}
use Rattle.plantday.proofs.whole_day.Goals as goal

-- calls leave the arm count as it is
n_stays : {At : Type 0} (door : Table At) {s t : State At} → Called door s t → t.n ≡ s.n
n_stays door {s} a = ap (λ x. x.n) a.1 ∙ run_n door a.0 s

pub turn-requires : goal.turn-requires
turn-requires g c = (search rules, (c.pick-k.ensures.below, n_stays g.D.Door.table c.loop-t.invariant.calls ∙ ap (λ s. s.n) c.make-gate.ensures.made ∙ c.requires))

pub loop-t-preserved : goal.loop-t-preserved
loop-t-preserved g c =
    let door = g.D.Door.table in
    let at = c.loop-t in
    let a = at.invariant.calls in
    let b = c.turn.ensures.calls in
    record {
      calls = (a.0 ++ b.0, b.1 ∙ ap (λ s. run door s b.0) a.1 ∙ sym (run_append door a.0 b.0 c.make-gate.result));
      turns = turns_on door at.t c.pick-k.result c.pick-k.new.dice.state _ (plant at.gate at.dice.state at.record) _ at.invariant.turns c.pick-k.ensures.arm c.pick-k.ensures.dice c.turn.ensures.turn;
    }

pub loop-t-init : goal.loop-t-init
unfolding turns_of
loop-t-init g c = record { calls = search rules; turns = ap (λ dice. plant c.make-gate.result dice c.args.record.now) c.new-dice.ensures }

pub unwrap-requires : goal.unwrap-requires
unwrap-requires g c =
    let n = n_stays g.D.Door.table c.loop-t.invariant.calls in
    let made = c.make-gate.ensures.made in
    let arms = c.requires in
    let seen = c.look.ensures.answer in
    grind (arith, nat_tests)

abbrev making : (g : Over) → goal.After-record-1 g → Making
making g c = of_plant (g.B.Bank.memory c.args.bank) g.B.Bank.HIGHEST (g.B.Bank.values c.args.bank)

-- the plant after the last turn
after_day : (g : Over) (c : goal.After-record-1 g) → plant c.loop-t.gate c.loop-t.dice.state c.loop-t.record ≡ day_of g.D.Door.table (made g.D.Door.table (making g c)) c.args.record.now
after_day g c =
    let all : c.loop-t.t ≡ day_turns = omega (arith, c.loop-t-test.false, c.loop-t.auto.t-end) in
    rw (all, c.make-gate.ensures.made) at c.loop-t.invariant.turns

-- the calls of the day lead from the making to its gate
from_making : (g : Over) (c : goal.After-record-1 g) → Called g.D.Door.table (made g.D.Door.table (making g c)) c.loop-t.gate
from_making g c = let a = c.loop-t.invariant.calls in (a.0, a.1 ∙ ap (λ s. run g.D.Door.table s a.0) c.make-gate.ensures.made)

pub returns-clause-fair : goal.returns-clause-fair
returns-clause-fair g c =
    let door = g.D.Door.table in
    let met = g.met.D.Door in
    let start = made door (making g c) in
    let a = from_making g c in (
      a.0,
      a.1,
      subst (Fair door start a.0) (sym a.1) (fair door met.phased met.rules met.way met.reads (making g c) a.0),
      subst (TurnsTold door start a.0) (sym a.1) (turns_told door met.phased met.rules met.bits (making g c) a.0),
    )

pub returns-clause-turns : goal.returns-clause-turns
returns-clause-turns g c =
    let seen = c.look.ensures.answer in
    let view = c.unwrap.ensures in
    grind arith

pub returns-clause-day : goal.returns-clause-day
returns-clause-day g c = ap (λ p. p.gate) (after_day g c)

pub returns-clause-noted : goal.returns-clause-noted
returns-clause-noted g c =
    ap (λ n. record c.loop-t.record { turns = n }) (returns-clause-turns g c)
    ∙ ap (λ (p : Plant _). record p.notes { turns = p.gate.turns }) (after_day g c)

pub returns-clause-lent : goal.returns-clause-lent
returns-clause-lent g c = let a = from_making g c in ap (λ s. s.memory.name) a.1 ∙ memory_name g.D.Door.table (making g c) a.0
