-- A play over another bank that gives the file as many arms comes to the same.
use Rattle.std.proofs.Common.{◌≡◌, ℕ, zero, suc, ◌+◌, ◌<◌, ◌≤◌, true, List, ◌++◌, length, Ok, Err, Result, sym, refl, ap, ap₂, ◌∙◌, arith}
use Rattle.bank.specs.Lent.{Lent}
use Rattle.gate_model.specs.Accesses.{ShowsAccesses}
use Rattle.gate_model.specs.SameButMarks.{SameButMarks}
use Rattle.gate_model.specs.States.{State, arm_at}
use Rattle.gate_model.specs.Table.{Table}
use Rattle.gate_model.proofs.Twins.{made_twins, same_but_marks, bit_same}
use Rattle.gate.proofs.StaySame.{largest_same}
use Rattle.schedule.specs.Reading.{Contents}
use Rattle.schedule.specs.declared.fault.PlayFault.{PlayFault}
use Rattle.obeying.specs.Obeying.{refusals}
use Rattle.obeying.proofs.Twins.{all_twins, each_same, count_same}
use Rattle.play.specs.Playing.{over, start, end, play_text, play_answer, play_memory, playable, GivesAsMany, IsSamePlay, SameElsewhere}
use Rattle.play.specs.Reports.{arm_line, first_line, report_text}
use Rattle.play.specs.Text.{lines, overwritten}

lines_same : (line other : ℕ → List ℕ) (n : ℕ) → ((k : ℕ) → k < n → other k ≡ line k) → lines other n ≡ lines line n
lines_same line other zero same = refl
lines_same line other (suc n) same = ap₂ (λ before last. before ++ last) (lines_same line other n (λ k l. same k (omega (arith, l)))) (same n (omega arith))

module _ {At : Type 0} (door : Table At) where
  -- the report of a gate that is the same but for its number and marks
  line_same : (s t : State At) (k : ℕ) → k < s.n → SameButMarks door s t → arm_line door t k ≡ arm_line door s k
  line_same s t k l h =
      let same = h.arms (k + 1) (omega arith) (omega arith) in
      let n = h.n in
      let position = same.position in
      let side = same.side in
      let visits = same.visits in
      let largest = largest_same (arm_at door s (k + 1)).row (arm_at door t (k + 1)).row s.n same.row in
      cc

  pub text_same : ((n : ℕ) → 1 ≤ door.room n) → (s t : State At) (orders refused : ℕ) → SameButMarks door s t → report_text door t orders refused ≡ report_text door s orders refused
  text_same some_room s t orders refused h =
      let n = h.n in
      let bit = bit_same door some_room s t h in
      let first : first_line t orders refused ≡ first_line s orders refused = cc in
      ap₂ (λ line rest. line ++ rest) first (ap (lines (arm_line door t)) (sym h.n) ∙ lines_same (arm_line door s) (arm_line door t) s.n (λ k l. line_same s t k l h))

module _ {At : Type 0} (door : Table At) (shown : ShowsAccesses door) where
  same_play : ((n : ℕ) → 1 ≤ door.room n) → (lent : Lent) (high : ℕ) (regs : List ℕ) (lent' : Lent) (high' : ℕ) (regs' : List ℕ) (said : Result Contents PlayFault) (memory : List ℕ)
      → GivesAsMany door high regs high' regs' said
      → IsSamePlay door lent high regs lent' high' regs' said memory (play_answer door lent high regs said) (play_memory door lent high regs memory said)
  same_play some_room lent high regs lent' high' regs' (Ok c) memory e =
      let s = start door lent high regs c in
      let t = start door lent' high' regs' c in
      let twins = made_twins door true (over lent high regs c) (over lent' high' regs' c) (λ _. refl) e in
      let count = count_same door shown some_room s t c.orders twins in
      let same = same_but_marks door true _ _ (all_twins door shown some_room s t c.orders twins).same in
      let report = text_same door some_room (end door lent high regs c) (end door lent' high' regs' c) (length c.orders) (refusals door s c.orders) same in
      let text : play_text door lent' high' regs' c ≡ play_text door lent high regs c = ap (report_text door (end door lent' high' regs' c) (length c.orders)) count ∙ report in
      record {
        answer = ap (λ bytes. Ok (length bytes)) (sym text);
        report = ap (overwritten memory) (sym text);
        refusals = each_same door shown some_room s t c.orders twins;
      }
  same_play some_room lent high regs lent' high' regs' (Err fault) memory e = record { answer = refl; report = refl; refusals = refl }

  -- of what a play answered and left
  pub same_elsewhere : ((n : ℕ) → 1 ≤ door.room n) → (lent : Lent) (high : ℕ) (regs file memory : List ℕ) (answer_is : Result ℕ PlayFault) (memory_is : List ℕ)
      → answer_is ≡ play_answer door lent high regs (playable file (length memory))
      → memory_is ≡ play_memory door lent high regs memory (playable file (length memory))
      → SameElsewhere door lent high regs file memory answer_is memory_is
  same_elsewhere some_room lent high regs file memory answer_is memory_is answer report lent' high' regs' e =
      let same = same_play some_room lent high regs lent' high' regs' (playable file (length memory)) memory e in
      record { answer = answer ∙ same.answer; report = report ∙ same.report; refusals = same.refusals }
