use Rattle.std.proofs.Common.{◌≡◌, add-one, ap, sym, ◌∙◌, rules}
use Rattle.dispatcher.proofs.OneMoveMore.{one_move}
use Rattle.dispatchday.specs.Day.{host, with_ask, after_move, arm_served, phase_seen, delivered, looked, turned, day_of}
use Rattle.dispatchday.specs.Plant.{asked_at, reading_at}
use Rattle.dispatchday.proofs.host.day.Given.{Over}
use Rattle.dispatchday.proofs.host.day.Goals as goal
use Rattle.dispatchday.proofs.host.day.Goals.{in-Some, in_default, then-seen_inside, else-seen_inside}

pub loop-time-init : goal.loop-time-init
unfolding day_of
loop-time-init g c = record { moves = search rules; day = ap (host c.args.dispatcher.now c.args.asked.now c.args.readings.now _) c.none-waits.ensures }

-- the arm that asks is put into the ring
asks : (g : Over) (c : goal.Joined-seen_inside g)
    → host c.loop-time.dispatcher c.match-asks.asked c.loop-time.readings c.match-asks.lost c.loop-time.waits
    ≡ with_ask (asked_at c.loop-time.time) (host c.loop-time.dispatcher c.loop-time.asked c.loop-time.readings c.loop-time.lost c.loop-time.waits)
asks g c =
    let who = sym c.asks.ensures in
    elim c.match-asks.branch [
      | in-Some w ↦ rw (w.asked-is ∙ w.put_or_lose.ensures.ring, w.lost-is, w.put_or_lose.ensures.lost, who ∙ w.in-Some.is)
      | in_default w ↦ rw (w.asked-is, w.lost-is, who ∙ w.in_default.is)
    ]

-- a reading that is due is delivered
due : (g : Over) (c : goal.Joined-seen_inside g)
    → host c.make_move-arm.new.self c.make_move-arm.new.asked c.if-seen_inside.readings c.if-seen_inside.lost c.note.new.self
    ≡ delivered c.phase_seen-seen.result c.make_move-arm.result c.loop-time.time (host c.make_move-arm.new.self c.make_move-arm.new.asked c.loop-time.readings c.match-asks.lost c.note.new.self)
due g c =
    let inside = sym c.seen_inside.ensures in
    elim c.if-seen_inside.branch [
      | then-seen_inside w ↦ let measured : w.measure.result ≡ reading_at c.make_move-arm.result c.loop-time.time = λ i. record { arm = w.measure.ensures.arm i; tenths = w.measure.ensures.tenths i } in
          rw (w.readings-is ∙ w.put_or_lose-then-seen_inside.ensures.ring, w.lost-is, w.put_or_lose-then-seen_inside.ensures.lost, inside ∙ w.if-seen_inside.true, measured)
      | else-seen_inside w ↦ rw (w.readings-is, w.lost-is, inside ∙ w.if-seen_inside.false)
    ]

pub loop-time-preserved : goal.loop-time-preserved
unfolding day_of
loop-time-preserved g c =
    let door = g.D.Door.table in
    let time = c.loop-time.time in
    let move = c.make_move-arm.ensures in
    record {
      moves = one_move door _ c.loop-time.invariant.moves move.after;
      day = rw add-one (due g c
          ∙ rw (c.note.ensures, c.phase_seen-seen.ensures, move.after, move.ring, move.answer)
          (ap (λ h. looked (phase_seen door (after_move door h).dispatcher.gate (arm_served door h)) (arm_served door h) time (after_move door h)) (asks g c))
          ∙ ap (turned door time) c.loop-time.invariant.day);
    }
