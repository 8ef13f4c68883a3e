-- A play of the file of a recorder has the report of its gate.
use Rattle.std.proofs.Common.{◌≡◌, ℕ, ◌≤◌, Bool, true, false, T, if◌then◌else◌, Ok, Err, Result, List, length, sym, ap, ap₂, ◌∙◌, nat_le, arith}
use Rattle.std.proofs.lemmas.Grind.{common_steps}
use Rattle.std.proofs.lemmas.Bool.Decides.{nat_tests}
use Rattle.bank.specs.Lent.{Lent}
use Rattle.gate_model.specs.Limits.{arm_limit}
use Rattle.gate_model.specs.Making.{arms_for}
use Rattle.gate_model.specs.States.{State}
use Rattle.gate_model.specs.Table.{Table}
use Rattle.gate_model.proofs.Rooms.{arms_largest}
use Rattle.play.specs.Limits.{report_room}
use Rattle.play.specs.Playing.{over, end, play_text, play_answer, play_memory, playable}
use Rattle.play.specs.Reports.{report_text, text_answer, text_memory}
use Rattle.play.specs.Text.{overwritten}
use Rattle.play.proofs.OtherBank.{text_same}
use Rattle.recordday.specs.Reports.{order_total}
use Rattle.recorder.specs.Law.{IsRecord}
use Rattle.recorder.specs.Recorders.{Recording}
use Rattle.schedule.specs.FileLimits.{file_limit}
use Rattle.schedule.specs.Reading.{Contents, contents, heading_of, says}
use Rattle.schedule.specs.declared.fault.PlayFault.{PlayFault}
use Rattle.schedule.specs.declared.fault.PlayFault.TheVariants.{LongFile, ShortMemory}
use Rattle.schedule.specs.declared.order_number.Order.{Order}
use Rattle.schedule.specs.declared.schedule_file.Heading.{Heading}

-- a bank with the registers of as many arms as are wanted gives so many
pub gives_all : {At : Type 0} (door : Table At) (high len n : ℕ) → n ≤ arm_limit → door.needed ≤ high → door.room n ≤ len → arms_for door high len n ≡ n
gives_all door high len n few holds room =
    let l = arms_largest door high len n in
    let within = l.within in
    let most = l.most n in
    grind (arith, common_steps, within, most, few, holds, room)

-- a text that memory took, and its length
record Taken (n : ℕ) (text memory left : List ℕ) : Type 0 where
  size : n ≡ length text
  left_is : left ≡ overwritten memory text

taken : (room : Bool) (n : ℕ) (text memory left : List ℕ) → (if room then Ok (length text) else Err ShortMemory) ≡ Ok n → left ≡ (if room then overwritten memory text else memory) → Taken n text memory left
taken true n text memory left e f = record { size = cc; left_is = f }
taken false n text memory left e f = cc

module _ {At : Type 0} (door : Table At) where
  -- a play that answers a length has played the file
  was_played : (short room : Bool) (said : Result Contents PlayFault) (c : Contents) (lent : Lent) (high : ℕ) (regs : List ℕ) (n : ℕ) → T short → said ≡ Ok c
      → play_answer door lent high regs (if short then (if room then said else Err ShortMemory) else Err LongFile) ≡ Ok n → (if short then (if room then said else Err ShortMemory) else Err LongFile) ≡ Ok c
  was_played true true said c lent high regs n t e f = e
  was_played true false said c lent high regs n t e f = cc
  was_played false room said c lent high regs n t e f = elim t [ ]

  same_text : ((n : ℕ) → 1 ≤ door.room n) → (r : Recording At) (bytes : List ℕ) (orders : List Order) (lent : Lent) (high : ℕ) (regs : List ℕ)
      → IsRecord door r bytes orders → arms_for door high (length regs) r.gate.n ≡ r.gate.n
      → play_text door lent high regs (contents r.gate.n orders) ≡ report_text door r.gate (length orders) 0
  same_text some_room r bytes orders lent high regs record_is gives =
      let c = contents r.gate.n orders in
      let (none, same) = record_is.replays (over lent high regs c) gives in
      ap (report_text door (end door lent high regs c) (length orders)) none ∙ text_same door some_room r.gate (end door lent high regs c) (length orders) 0 same

  -- what a play of a file with these contents answers and leaves
  played_so : (lent : Lent) (high : ℕ) (regs file memory left : List ℕ) (c : Contents) (n : ℕ) → length file ≤ file_limit → says file ≡ Ok c
      → play_answer door lent high regs (playable file (length memory)) ≡ Ok n → left ≡ play_memory door lent high regs memory (playable file (length memory))
      → Taken n (play_text door lent high regs c) memory left
  played_so lent high regs file memory left c n short said e f =
      let test : T (nat_le (length file) file_limit) = grind (arith, nat_tests, short) in
      let p = was_played (nat_le (length file) file_limit) (nat_le report_room (length memory)) (says file) c lent high regs n test said e in
      let size : Ok (length (play_text door lent high regs c)) ≡ Ok n = ap (play_answer door lent high regs) (sym p) ∙ e in
      record { size = cc; left_is = f ∙ ap (play_memory door lent high regs memory) p }

  -- both memories took the same text
  pub record BothTold (text : List ℕ) (n m : ℕ) (recorded played left other : List ℕ) : Type 0 where
    pub first : (n ≡ length text) × (left ≡ overwritten recorded text)
    pub second : (m ≡ length text) × (other ≡ overwritten played text)

  pub both_told : ((n : ℕ) → 1 ≤ door.room n) → (r : Recording At) (bytes file : List ℕ) (orders : List Order) (lent : Lent) (high : ℕ) (regs : List ℕ) (gate : State At) (h : Heading) (n m : ℕ) (recorded played left other : List ℕ)
      → IsRecord door r bytes orders → file ≡ bytes → r.written ≤ file_limit → arms_for door high (length regs) r.gate.n ≡ r.gate.n
      → gate ≡ r.gate → heading_of (says file) ≡ Ok h
      → text_answer recorded (report_text door gate h.orders 0) ≡ Ok n → left ≡ text_memory recorded (report_text door gate h.orders 0)
      → play_answer door lent high regs (playable file (length played)) ≡ Ok m → other ≡ play_memory door lent high regs played (playable file (length played))
      → BothTold (report_text door r.gate (order_total (says file)) 0) n m recorded played left other
  both_told some_room r bytes file orders lent high regs gate h n m recorded played left other record_is e short gives g head a f b k =
      let c = contents r.gate.n orders in
      let said : says file ≡ Ok c = ap says e ∙ record_is.reads_back in
      let size : length file ≤ file_limit = (let s = ap length e in let z = record_is.size in omega (arith, s, z, short)) in
      let total : order_total (says file) ≡ length orders = ap order_total said in
      let counted : h.orders ≡ length orders = (let x = ap heading_of (sym said) ∙ head in cc) in
      let told = taken (nat_le report_room (length recorded)) n (report_text door gate h.orders 0) recorded left a f in
      let again = played_so lent high regs file played other c m size said b k in
      let first : report_text door gate h.orders 0 ≡ report_text door r.gate (order_total (says file)) 0 = ap₂ (λ s o. report_text door s o 0) g (counted ∙ sym total) in
      let second : play_text door lent high regs c ≡ report_text door r.gate (order_total (says file)) 0 =
      same_text some_room r bytes orders lent high regs record_is gives ∙ ap (λ o. report_text door r.gate o 0) (sym total) in
      record {
        first = (told.size ∙ ap length first, told.left_is ∙ ap (overwritten recorded) first);
        second = (again.size ∙ ap length second, again.left_is ∙ ap (overwritten played) second);
      }
