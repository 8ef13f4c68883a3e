use Rattle.std.proofs.Common.{◌≡◌, ℕ, ◌≤◌, List, [], length, Ok, sym, ap, ◌∙◌, arith, rules}
use Rattle.std.proofs.lemmas.Bool.Decides.{nat_tests}
use Rattle.gate_model.proofs.Unaltered.{memory_name}
use Rattle.gate_model.specs.States.{made}
use Rattle.schedule.specs.Reading.{Contents}
use Rattle.obeying.specs.Obeying.{obeyed_all, refusals}
use Rattle.obeying.proofs.SameMemory.{obeyed_all_name}
use Rattle.play.specs.Limits.{report_room}
use Rattle.play.specs.Playing.{playable, over, start, end, play_text, play_answer, play_regs, play_lent, play_memory}
use Rattle.play.specs.Reports.{report_text}
use Rattle.play.specs.Text.{overwritten}
use Rattle.play.proofs.player.perform.Goals as goal

-- a file that can be played leaves room for a report
room : (file : List ℕ) (memory : ℕ) (c : Contents) → playable file memory ≡ Ok c → report_room ≤ memory
room file memory c e = grind (arith, nat_tests)

pub put_report-length-requires : goal.put_report-length-requires
put_report-length-requires g c = (search rules, room c.args.file.now _ c.in-Ok.schedule (sym c.ready.ensures ∙ c.in-Ok.is))

pub returns : goal.returns
returns g c =
    let door = g.D.Door.table in
    let high = g.B.Bank.HIGHEST in
    let lent = g.B.Bank.memory c.args.bank in
    let regs = g.B.Bank.values c.args.bank in
    let memory = c.args.memory.now in
    let said = c.in-Ok.schedule in
    let playable = sym c.ready.ensures ∙ c.in-Ok.is in
    let first : c.make-gate.result ≡ start door lent high regs said =
    c.make-gate.ensures.made ∙ ap (λ arms. made door (record { memory = lent; high = high; number = 0; wanted = arms; regs = regs })) (c.from.ensures ∙ ap (λ h. h.arms) c.heading-heading.ensures) in
    let last : c.obey_all-refused.new.gate ≡ end door lent high regs said =
    c.obey_all-refused.ensures.after ∙ ap (λ s. obeyed_all door s said.orders) first in
    let refused = c.obey_all-refused.ensures.refused ∙ ap (λ s. refusals door s said.orders) first in
    let orders = ap (λ h. h.orders) c.heading-heading.ensures in
    let text : report_text door c.obey_all-refused.new.gate c.heading-heading.result.orders c.obey_all-refused.result ≡ play_text door lent high regs said =
    λ i. report_text door (last i) (orders i) (refused i) in
    record {
      answer = ap Ok (c.put_report-length.ensures.answer ∙ ap length text) ∙ sym (ap (play_answer door lent high regs) playable);
      same_bank = ap (λ m. m.name) (c.into_bank.ensures.lent ∙ ap (λ s. s.memory) last) ∙ (obeyed_all_name door (start door lent high regs said) said.orders ∙ memory_name door (over lent high regs said) []);
      written = c.into_bank.ensures.lent ∙ (ap (λ s. s.memory) last ∙ sym (ap (play_lent door lent high regs) playable));
      registers = c.into_bank.ensures.values ∙ (ap (λ s. s.regs) last ∙ sym (ap (play_regs door lent high regs) playable));
      report = c.put_report-length.ensures.after ∙ (ap (overwritten memory) text ∙ sym (ap (play_memory door lent high regs memory) playable));
      fits = c.put_report-length.ensures.fits;
    }
