use Rattle.std.proofs.Common.{◌≡◌, ℕ, ◌≤◌, List, length, replicate, take, sym, ap, ◌∙◌, subst, arith}
use Rattle.std.proofs.lemmas.Grind.{common_steps}
use Rattle.bank.specs.Bits.{bit_registers, bits}
use Rattle.bank.specs.Lent.{unlogged}
use Rattle.gate_model.specs.Limits.{arm_limit}
use Rattle.gate_model.specs.Making.{arms_for}
use Rattle.play.specs.Reports.{report_text}
use Rattle.schedule.specs.Reading.{says}
use Rattle.three_bits.specs.Positions.{three_bits}
use Rattle.recordday.specs.Reports.{order_total, recorded_report}
use Rattle.recordday.proofs.SameReport.{BothTold, both_told, gives_all}
use Rattle.recordday.proofs.reports.both_reports.Goals as goal

some_room : (n : ℕ) → 1 ≤ three_bits.room n
some_room n = omega arith

-- a bit bank has the registers of every arm count of a file
gives : (regs : List ℕ) (n : ℕ) → n ≤ arm_limit → regs ≡ replicate bit_registers 0 → arms_for three_bits 1 (length regs) n ≡ n
gives regs n few e =
    let size : length regs ≡ bit_registers = ap length e ∙ grind (arith, common_steps) in
    gives_all three_bits 1 (length regs) n few (omega arith) (omega (arith, few, size))

-- both reports of what is asked for here
both : (g : _) (c : goal.In_ok-again g) → BothTold three_bits (recorded_report three_bits c.args.recorder.now c.args.memory.now) c.in_ok-length.length c.in_ok-again.again c.args.recorded.now c.args.played.now c.report.new.memory c.play.new.memory
both g c =
    let r = c.args.recorder.now in
    let memory = c.args.memory.now in
    let (orders, record_is) = c.gate.ensures.in_hand memory c.requires in
    let is = c.written.ensures.is in
    let short = c.written.ensures.short in
    subst (λ k. BothTold three_bits (report_text three_bits r.gate (order_total (says (take k memory))) 0) c.in_ok-length.length c.in_ok-again.again c.args.recorded.now c.args.played.now c.report.new.memory c.play.new.memory) is
    (both_told three_bits some_room r (take r.written memory) _ orders (unlogged 0) 1 (bits c.new.result) c.gate.result.now c.in_ok-orders.field-0 c.in_ok-length.length c.in_ok-again.again _ _ _ _
    record_is (ap (λ n. take n memory) is) (omega (arith, is, short)) (gives (bits c.new.result) r.gate.n record_is.lawful.few_arms c.new.ensures) c.gate.ensures.gate (sym c.check.ensures ∙ c.in_ok-orders.was)
    (sym c.report.ensures.answer ∙ c.in_ok-length.was) c.report.ensures.after (sym c.play.ensures.played.answer ∙ c.in_ok-again.was) c.play.ensures.played.report)

pub returns-clause-recorded : goal.returns-clause-recorded
returns-clause-recorded g c = (both g c).first

pub returns-clause-played : goal.returns-clause-played
returns-clause-played g c = (both g c).second
