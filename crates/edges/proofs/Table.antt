-- The cases of both tables: one test, computed over each table, and what a passed test shows.
use Rattle.std.proofs.Common.{◌≡◌, ℕ, zero, suc, ◌≤◌, Bool, true, false, not, ◌&&◌, eqb, leb, ltb, List, [], ◌∷◌, length, Some, None, Ok, Err, codes, Option, Result, refl, ap, ◌∙◌, le_of_suc-le-suc, not-suc-le-zero}
use Rattle.std.specs.Fmt.{digits}
use Rattle.std.specs.Str.{bytes_eq}
use Rattle.std.proofs.lemmas.Slice.Eq.{bytes_eq-Decides}
use Rattle.std.specs.Bool.{Decides}
use Rattle.std.proofs.lemmas.Bool.{and_parts, not-true, eqb-true, cond-true, le-leb}
use Rattle.std.proofs.lemmas.Bool.Decides.{Decides-not}
use Rattle.schedule.specs.Faults.{fault_number, fault_place, fault_order, fault_layer}
use Rattle.schedule.specs.FileLimits.{file_limit}
use Rattle.schedule.specs.Numbers.{groups, number_from}
use Rattle.schedule.specs.declared.number.Number.{Number}
use Rattle.schedule.specs.Reading.{Contents, contents, says, orders_from}
use Rattle.schedule.specs.declared.fault.PlayFault.{PlayFault}
use Rattle.bank.specs.Lent.{Lent, unlogged}
use Rattle.gate_model.specs.Table.{Table}
use Rattle.gate_model.specs.Calls.{refusal_of, way_answer}
use Rattle.gate.specs.Answers.{tally_answer}
use Rattle.gate_model.specs.Making.{arms_for, largest}
use Rattle.gate_model.specs.Refusals.{refusal_number}
use Rattle.gate.specs.declared.gate.Tally.{Tally}
use Rattle.gate_model.specs.declared.refusal.Refusal.{Refusal}
use Rattle.play.specs.Limits.{report_room}
use Rattle.play.specs.Playing.{playable, play_answer, play_memory, play_text}
use Rattle.play.specs.Reports.{fault_text, layer_word}
use Rattle.play.specs.Text.{overwritten}
use Rattle.three_bits.specs.Positions.{three_bits}
use Rattle.three_bits.specs.contracts.position.ThreeBitsPartialEq.TheImpl.{ghosts as three_bits_eq}
use Rattle.four_valued.specs.Positions.{four_valued}
use Rattle.four_valued.specs.contracts.position.FourValuedPartialEq.TheImpl.{ghosts as four_valued_eq}
use Rattle.doors.specs.contracts.three_bit_door.ThreeBitsDoor.TheImpl.Laws.{told_apart-law as three_bits_told}
use Rattle.doors.specs.contracts.four_valued_door.FourValuedDoor.TheImpl.Laws.{told_apart-law as four_valued_told}
use Rattle.edges.specs.Cases.{Case, writes, reads, opens, fails, tells, plays, gives, bars, accepts, refuses, frees, counts, notes, turned, matches, differs, Plays, Holds, EachHolds}
use Rattle.edges.specs.ThreeBitCases as T
use Rattle.edges.specs.FourValuedCases as V
use Rattle.edges.specs.EveryCase.{EveryCase}
use Rattle.edges.proofs.SameTest.{same_test, same_test-Decides}

-- the answer is of one kind, and what it holds passes a test
abbrev ok_test : {X E : Type 0} → (X → Bool) → Result X E → Bool
ok_test p (Ok x) = p x
ok_test p (Err e) = false

abbrev err_test : {X E : Type 0} → (E → Bool) → Result X E → Bool
err_test p (Ok x) = false
err_test p (Err e) = p e

abbrev some_test : {X : Type 0} → (X → Bool) → Option X → Bool
some_test p (Some x) = p x
some_test p None = false

abbrev none_test : {X : Type 0} → Option X → Bool
none_test (Some x) = false
none_test None = true

abbrev empty_test : {X : Type 0} → List X → Bool
empty_test [] = true
empty_test (x ∷ xs) = false

-- it is then an answer of that kind, and what the test shows holds of it
module _ {X : Type 0} {P : X → Type 0} (p : X → Bool) (shows : (x : X) → p x ≡ true → P x) where
  is_ok : {E : Type 0} (r : Result X E) → ok_test p r ≡ true → (x : X) × (r ≡ Ok x) × P x
  is_ok (Ok x) t = (x, refl, shows x t)
  is_ok (Err e) t = cc

  is_err : {Y : Type 0} (r : Result Y X) → err_test p r ≡ true → (x : X) × (r ≡ Err x) × P x
  is_err (Ok y) t = cc
  is_err (Err x) t = (x, refl, shows x t)

  is_some : (o : Option X) → some_test p o ≡ true → (x : X) × (o ≡ Some x) × P x
  is_some (Some x) t = (x, refl, shows x t)
  is_some None t = cc

is_none : {X : Type 0} (o : Option X) → none_test o ≡ true → o ≡ None
is_none (Some x) t = cc
is_none None t = refl

is_empty : {X : Type 0} (xs : List X) → empty_test xs ≡ true → xs ≡ []
is_empty [] t = refl
is_empty (x ∷ xs) t = cc

same_bytes : (xs ys : List ℕ) → bytes_eq xs ys ≡ true → xs ≡ ys
same_bytes xs ys t = (bytes_eq-Decides xs ys).0 t

-- the tests of what the answers hold
abbrev contents_test : ℕ → Contents → Bool
contents_test arms c = eqb c.arms arms && empty_test c.orders

same_contents : (arms : ℕ) (c : Contents) → contents_test arms c ≡ true → c ≡ contents arms []
same_contents arms c t =
    let both = and_parts (eqb c.arms arms) (empty_test c.orders) t in
    λ i. contents (eqb-true c.arms arms both.0 i) (is_empty c.orders both.1 i)

abbrev number_read_test : ℕ → ℕ → Number → Bool
number_read_test value next n = eqb n.value value && eqb n.next next

same_number : (value next : ℕ) (n : Number) → number_read_test value next n ≡ true → n ≡ record { value = value; next = next }
same_number value next n t =
    let both = and_parts (eqb n.value value) (eqb n.next next) t in
    λ i. record { value = eqb-true n.value value both.0 i; next = eqb-true n.next next both.1 i }

abbrev fault_test : ℕ → ℕ → ℕ → List ℕ → PlayFault → Bool
fault_test number place order layer f =
    eqb (fault_number f) number
    && (eqb (fault_place f) place && (eqb (fault_order f) order && bytes_eq (layer_word (fault_layer f)) layer))

same_fault : (number place order : ℕ) (layer : List ℕ) (f : PlayFault) → fault_test number place order layer f ≡ true
    → (fault_number f ≡ number) × (fault_place f ≡ place) × (fault_order f ≡ order) × (layer_word (fault_layer f) ≡ layer)
same_fault number place order layer f t =
    let n = and_parts (eqb (fault_number f) number) _ t in
    let p = and_parts (eqb (fault_place f) place) _ n.1 in
    let o = and_parts (eqb (fault_order f) order) _ p.1 in
    (eqb-true (fault_number f) number n.0, eqb-true (fault_place f) place p.0, eqb-true (fault_order f) order o.0, same_bytes _ layer o.1)

abbrev line_test : List ℕ → PlayFault → Bool
line_test line f = bytes_eq (fault_text f) line

abbrev same_bool : Bool → Bool → Bool
same_bool true b = b
same_bool false b = not b

is_bool : (expected b : Bool) → same_bool expected b ≡ true → b ≡ expected
is_bool true b t = t
is_bool false b t = not-true b t

abbrev number_test : ℕ → Refusal → Bool
number_test number r = eqb (refusal_number r) number

abbrev count_test : ℕ → Tally → Bool
count_test times c = eqb c.count times

abbrev note_test : Bool → Tally → Bool
note_test idle c = same_bool idle c.idle

-- a play with room for a report obeys what the file says
played : (file memory : List ℕ) → leb (length file) file_limit ≡ true → report_room ≤ length memory → playable file (length memory) ≡ says file
played file memory short room = cond-true _ _ _ short ∙ cond-true _ _ _ (le-leb report_room (length memory) room)

-- of a door, a test that tells its positions apart, and a bank
module _ {At : Type 0} (door : Table At) (same_position : At → At → Bool) (told_apart : (p q : At) → Decides (same_position p q) (p ≡ q)) (highest : ℕ) (registers : List ℕ) where
  -- whether the report of a play is the text
  abbrev report_test : Lent → List ℕ → Contents → Bool
  report_test lent text c = bytes_eq (play_text door lent highest registers c) text

  -- the test of a case; a play may be over any memory
  abbrev test : Lent → Case At → Bool
  test lent (writes number bytes) = bytes_eq (groups number) bytes
  test lent (reads bytes number) = ok_test (number_read_test number (length bytes)) (number_from 0 bytes)
  test lent (opens file arms) = ok_test (contents_test arms) (says file)
  test lent (fails file number place order layer) = err_test (fault_test number place order (codes layer)) (says file)
  test lent (tells file line) = err_test (line_test (codes line)) (says file)
  test lent (plays file text) = leb (length file) file_limit && ok_test (report_test lent (codes text)) (says file)
  test lent (gives high room wanted arms) = eqb (arms_for door high room wanted) arms
  test lent (bars high) = ltb high door.needed
  test lent (accepts s call) = none_test (refusal_of door s call)
  test lent (refuses s call number) = some_test (number_test number) (refusal_of door s call)
  test lent (frees s i free) = ok_test (same_bool free) (way_answer door s i)
  test lent (counts s w b times) = ok_test (count_test times) (tally_answer door s w b)
  test lent (notes s w b idle) = ok_test (note_test idle) (tally_answer door s w b)
  test lent (turned s times) = eqb s.turns times
  test lent (matches s t) = same_test door same_position s t
  test lent (differs s t) = not (same_test door same_position s t)

  -- such a play leaves this text as its report
  same_report : (lent : Lent) (file text memory : List ℕ) (r : Result Contents PlayFault)
      → ok_test (report_test lent text) r ≡ true → playable file (length memory) ≡ r → Plays door highest registers lent file text memory
  same_report lent file text memory r t e =
      let P : Contents → Type 0 = λ c. play_text door lent highest registers c ≡ text in
      let h = is_ok {P = P} (report_test lent text) (λ c. same_bytes (play_text door lent highest registers c) text) r t in
      record {
        answer = ap (play_answer door lent highest registers) (e ∙ h.1) ∙ ap (λ bytes. Ok (length bytes)) h.2;
        report = ap (play_memory door lent highest registers memory) (e ∙ h.1) ∙ ap (overwritten memory) h.2;
      }

  -- a case whose test passes holds
  sound : (c : Case At) → ((lent : Lent) → test lent c ≡ true) → Holds door highest registers c
  sound (writes number bytes) t = same_bytes (groups number) bytes (t (unlogged 0))
  sound (reads bytes number) t =
      let N : Number = record { value = number; next = length bytes } in
      let h = is_ok {P = λ n. n ≡ N} (number_read_test number (length bytes)) (same_number number (length bytes)) (number_from 0 bytes) (t (unlogged 0)) in h.1 ∙ ap Ok h.2
  sound (opens file arms) t =
      let h = is_ok {P = λ c. c ≡ contents arms []} (contents_test arms) (same_contents arms) (says file) (t (unlogged 0)) in h.1 ∙ ap Ok h.2
  sound (fails file number place order layer) t =
      is_err (fault_test number place order (codes layer)) (same_fault number place order (codes layer)) (says file) (t (unlogged 0))
  sound (tells file line) t = is_err (line_test (codes line)) (λ f. same_bytes (fault_text f) (codes line)) (says file) (t (unlogged 0))
  sound (plays file text) t =
      λ lent memory room.
      let both = and_parts (leb (length file) file_limit) (ok_test (report_test lent (codes text)) (says file)) (t lent) in
      same_report lent file (codes text) memory (says file) both.1 (played file memory both.0 room)
  sound (gives high room wanted arms) t = eqb-true (arms_for door high room wanted) arms (t (unlogged 0))
  sound (bars high) t = λ room wanted. cond-true _ _ _ (t (unlogged 0))
  sound (accepts s call) t = is_none (refusal_of door s call) (t (unlogged 0))
  sound (refuses s call number) t = is_some (number_test number) (λ r. eqb-true (refusal_number r) number) (refusal_of door s call) (t (unlogged 0))
  sound (frees s i free) t =
      let h = is_ok {P = λ b. b ≡ free} (same_bool free) (is_bool free) (way_answer door s i) (t (unlogged 0)) in h.1 ∙ ap Ok h.2
  sound (counts s w b times) t = is_ok (count_test times) (λ c. eqb-true c.count times) (tally_answer door s w b) (t (unlogged 0))
  sound (notes s w b idle) t = is_ok (note_test idle) (λ c. is_bool idle c.idle) (tally_answer door s w b) (t (unlogged 0))
  sound (turned s times) t = eqb-true s.turns times (t (unlogged 0))
  sound (matches s other) t = (same_test-Decides door same_position told_apart s other).0 (t (unlogged 0))
  sound (differs s other) t = (Decides-not (same_test door same_position s other) (same_test-Decides door same_position told_apart s other)).0 (t (unlogged 0))

  -- every case of a list passes, so each holds
  abbrev all_pass : Lent → List (Case At) → Bool
  all_pass lent [] = true
  all_pass lent (c ∷ cs) = test lent c && all_pass lent cs

  each : (cs : List (Case At)) → ((lent : Lent) → all_pass lent cs ≡ true) → EachHolds door highest registers cs
  each [] t k other h = absurd (not-suc-le-zero h)
  each (c ∷ cs) t zero other h = sound c (λ lent. (and_parts (test lent c) (all_pass lent cs) (t lent)).0)
  each (c ∷ cs) t (suc k) other h = each cs (λ lent. (and_parts (test lent c) (all_pass lent cs) (t lent)).1) k other (le_of_suc-le-suc h)

-- both tables pass: computed
three_bit_passed : (lent : Lent) → all_pass three_bits three_bits_eq.eq three_bits_told T.highest T.registers lent T.table ≡ true
unfolding orders_from largest digits
three_bit_passed lent = refl

four_valued_passed : (lent : Lent) → all_pass four_valued four_valued_eq.eq four_valued_told V.highest V.registers lent V.table ≡ true
unfolding orders_from largest digits
four_valued_passed lent = refl

pub every_case : EveryCase
every_case = record {
  three_bit = each three_bits three_bits_eq.eq three_bits_told T.highest T.registers T.table three_bit_passed;
  four_valued = each four_valued four_valued_eq.eq four_valued_told V.highest V.registers V.table four_valued_passed;
}
