use Rattle.std.proofs.Common.{◌≡◌, ℕ, ◌≤◌, List, length, replicate, take, Ok, Err, Result, sym, ap, ◌∙◌, arith}
use Rattle.std.proofs.lemmas.Grind.{common_steps}
use Rattle.std.proofs.lemmas.Bool.Decides.{nat_tests}
use Rattle.bank.specs.Bits.{bit_registers, bits}
use Rattle.bank.specs.Lent.{Lent, unlogged}
use Rattle.gate_model.specs.Table.{Table}
use Rattle.three_bits.specs.Positions.{three_bits}
use Rattle.play.specs.Limits.{report_room}
use Rattle.play.specs.Playing.{play_text, play_answer, play_memory}
use Rattle.play.specs.Text.{overwritten}
use Rattle.play.specs.Reports.{text_answer, text_memory, fault_text}
use Rattle.schedule.specs.Reading.{Contents}
use Rattle.schedule.specs.declared.fault.PlayFault.{PlayFault}
use Rattle.gateplay.specs.Printed.{shown, status_of}
use Rattle.gateplay.proofs.make_outcome.Goals as goal

-- a play answers with a fault only where the file cannot be played
not_playable : {At : Type 0} (door : Table At) (lent : Lent) (high : ℕ) (regs : List ℕ) (p : Result Contents PlayFault) (fault : PlayFault) → play_answer door lent high regs p ≡ Err fault → p ≡ Err fault
not_playable door lent high regs (Ok c) fault e = cc
not_playable door lent high regs (Err other) fault e = cc

-- a text of this length stands at the start of the memory that it was copied to
at_start : (memory text : List ℕ) (n : ℕ) → length text ≡ n → take n (overwritten memory text) ≡ text
at_start memory text n e = grind (arith, common_steps)

-- a text that the memory took stands at its start
taken : (memory text : List ℕ) (n : ℕ) → report_room ≤ length memory → text_answer memory text ≡ Ok n → take n (text_memory memory text) ≡ text
taken memory text n room e = grind (arith, nat_tests, common_steps)

-- a play that answers a length has left its report at the start of the memory
reported : (regs memory : List ℕ) (p : Result Contents PlayFault) (n : ℕ) → regs ≡ replicate bit_registers 0 → play_answer three_bits (unlogged 0) 1 regs p ≡ Ok n → take n (play_memory three_bits (unlogged 0) 1 regs memory p) ≡ shown p
reported regs memory (Ok c) n e a =
    let l : length (play_text three_bits (unlogged 0) 1 regs c) ≡ n = cc in
    at_start memory (play_text three_bits (unlogged 0) 1 regs c) n l ∙ ap (λ r. play_text three_bits (unlogged 0) 1 r c) e
reported regs memory (Err fault) n e a = cc

pub returns-in-Ok-clause-text : goal.returns-in-Ok-clause-text
returns-in-Ok-clause-text c =
    ap (take c.in-Ok.length) c.play.ensures.played.report
    ∙ reported _ c.args.memory.now _ c.in-Ok.length c.new.ensures (sym c.play.ensures.played.answer ∙ c.in-Ok.is)

pub returns-in-Err-clause-text : goal.returns-in-Err-clause-text
returns-in-Err-clause-text c =
    let fault = ap shown (not_playable three_bits (unlogged 0) 1 (bits c.new.result) _ c.in-Err.fault (sym c.play.ensures.played.answer ∙ c.in-Err.is)) in
    let line = taken c.play.new.memory (fault_text c.in-Err.fault) c.unwrap.result (omega arith) (sym c.fault_line.ensures.answer ∙ c.unwrap.ensures) in
    ap (take c.unwrap.result) c.fault_line.ensures.after ∙ line ∙ sym fault

pub returns-in-Err-clause-status : goal.returns-in-Err-clause-status
returns-in-Err-clause-status c = sym (ap status_of (not_playable three_bits (unlogged 0) 1 (bits c.new.result) _ c.in-Err.fault (sym c.play.ensures.played.answer ∙ c.in-Err.is)))
