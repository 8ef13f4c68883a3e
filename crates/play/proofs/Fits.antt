-- A report fits the least memory that is asked for.
use Rattle.std.proofs.Common.{◌≡◌, ℕ, zero, suc, ◌+◌, ◌-◌, ◌*◌, ◌^◌, ◌<◌, ◌≤◌, List, ◌++◌, length, decimal, slice_index, Option, refl, mul-suc, arith, length-append}
use Rattle.std.specs.Fmt.{digits}
use Rattle.std.proofs.lemmas.Bool.{leb-true, ltb-true}
use Rattle.std.proofs.lemmas.Fmt.{length-decimal-le}
use Rattle.std.proofs.lemmas.Nat.{mul-le}
use Rattle.gate_model.specs.Limits.{arm_limit, tally_limit}
use Rattle.gate_model.specs.Phases.{letter_of}
use Rattle.gate_model.specs.Table.{Table}
use Rattle.gate_model.specs.Arms.{side_of}
use Rattle.gate_model.specs.States.{State, arm_at, phase_at, bit_of}
use Rattle.gate_model.specs.Law.{IsReached}
use Rattle.gate_model.specs.Rules.{AreBits, ShowsBits}
use Rattle.gate_model.specs.declared.phase.Phase.{Phase}
use Rattle.gate_model.proofs.Accepted.{arm_is}
use Rattle.gate_model.proofs.Always.{at_origin, at_most}
use Rattle.gate_model.proofs.Bounds.{Bounded, bounded_at}
use Rattle.play.specs.Limits.{report_room}
use Rattle.play.specs.Text.{lines}
use Rattle.gate.specs.Answers.{largest_count}
use Rattle.play.specs.Reports.{side_text, arm_line, first_line}

-- the digits of the largest arm, the longest line of an arm, and the longest first line
abbrev arm_digits : ℕ
arm_digits = length (decimal arm_limit)

abbrev longest_line : ℕ
longest_line = arm_digits + 20

abbrev longest_first : ℕ
longest_first = arm_digits + 69

-- computed from the limits
some_digits : 0 < arm_digits
unfolding digits
some_digits = ltb-true _ _ refl

all_digits : arm_limit < 10 ^ arm_digits
unfolding digits
all_digits = ltb-true _ _ refl

longest_fits : longest_first + longest_line * arm_limit ≤ report_room
unfolding digits
longest_fits = leb-true _ _ refl

digits_short : (n : ℕ) → n ≤ arm_limit → length (decimal n) ≤ arm_digits
digits_short n h = length-decimal-le arm_digits n some_digits (omega (arith, h, all_digits)) (omega (arith, h))

side_short : (s : Option ℕ) → side_of s ≤ 1 → length (side_text s) ≤ 1
side_short s h = grind (arith, length-decimal-le 1)

largest_bounded : (row : List ℕ) (n : ℕ) → ((b : ℕ) → slice_index row b ≤ tally_limit) → largest_count row n ≤ tally_limit
largest_bounded row zero h = omega arith
largest_bounded row (suc n) h = omega (arith, largest_bounded row n h, h n)

letter_short : (p : Phase) → length (letter_of p) ≡ 1
letter_short p = grind arith

lines_short : (line : ℕ → List ℕ) (most n : ℕ) → ((k : ℕ) → k < n → length (line k) ≤ most) → length (lines line n) ≤ most * n
lines_short line most zero h = omega arith
lines_short line most (suc n) h =
    let before = lines_short line most n (λ k l. h k (omega arith)) in
    simp length-append (omega (arith, before, h n, mul-suc most n))

module _ {At : Type 0} (door : Table At) where
  line_short : (s : State At) (k : ℕ) → Bounded door s → AreBits door s → k < s.n → length (arm_line door s k) ≤ longest_line
  line_short s k h bits l =
      let a = arm_at door s (k + 1) in
      let b = h.each ((k + 1) - 1) in
      let few = h.few in
      let side = side_short a.side (bits.sides (k + 1) (arm_is s (k + 1) (omega arith) (omega arith))) in
      let begun = b.begun in
      let most = largest_bounded a.row s.n b.counts in
      let letter = letter_short (phase_at door s (k + 1)) in
      let number_digits = digits_short (k + 1) (omega arith) in
      let visit_digits = length-decimal-le 10 a.visits in
      let count_digits = length-decimal-le 3 (largest_count a.row s.n) in
      simp length-append (omega arith)

  bounded_fits : (s : State At) (orders refused k : ℕ) → Bounded door s → AreBits door s → orders < 2 ^ 64 → refused < 2 ^ 64 → k ≤ s.n
      → length (first_line s orders refused ++ lines (arm_line door s) k) ≤ report_room
  bounded_fits s orders refused k h bits o r l =
      let few = h.few in
      let bit = bits.bit in
      let number_digits = digits_short s.n few in
      let order_digits = length-decimal-le 20 orders in
      let refused_digits = length-decimal-le 20 refused in
      let bit_digits = length-decimal-le 1 (bit_of s) in
      let first : length (first_line s orders refused) ≤ longest_first = simp length-append (omega arith) in
      let rest = lines_short (arm_line door s) longest_line k (λ j m. line_short s j h bits (omega arith)) in
      let all : longest_line * k ≤ longest_line * arm_limit = mul-le longest_line k longest_line arm_limit (omega arith) (omega arith) in
      omega (arith, length-append (first_line s orders refused) (lines (arm_line door s) k), longest_fits)

  -- of a gate in hand: there is room for one line more
  pub line_fits : ShowsBits door → (s : State At) (orders refused k : ℕ) (page line text : List ℕ) → IsReached door s → orders < 2 ^ 64 → refused < 2 ^ 64 → k < s.n
      → page ≡ first_line s orders refused ++ lines (arm_line door s) k → text ≡ line → line ≡ arm_line door s k → length page + length text ≤ report_room
  line_fits bits s orders refused k page line text reached o r l before is one =
      let all = length (first_line s orders refused ++ lines (arm_line door s) (suc k)) in
      let fits : all ≤ report_room =
      at_most door all report_room (λ origin. bounded_fits s orders refused (suc k) (bounded_at door s origin) (at_origin door (AreBits door) bits s origin) o r (omega arith)) reached in
      grind (arith, length-append {A = ℕ})
