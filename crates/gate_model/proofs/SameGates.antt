-- Two gates in hand are the same exactly if they stand alike with number and marks.
use Rattle.std.proofs.Common.{◌≡◌, ℕ, ◌+◌, ◌-◌, ◌<◌, ◌≤◌, Bool, true, List, take, length, get_or, sym, ◌∙◌, subst, arith}
use Rattle.std.proofs.lemmas.List.{ext_get_or, get_or-take, length-map, length-take}
use Rattle.gate_model.specs.Arms.{no_arm}
use Rattle.gate_model.specs.Law.{IsReached}
use Rattle.gate_model.specs.Limits.{arm_limit}
use Rattle.gate_model.specs.SameButMarks.{SameProgress}
use Rattle.gate_model.specs.SameGates.{SameGates}
use Rattle.gate_model.specs.States.{State, arm_at}
use Rattle.gate_model.specs.Table.{Table}
use Rattle.gate_model.specs.declared.arm.Arm.{Arm}
use Rattle.gate_model.proofs.Accepted.{arm_is}
use Rattle.gate_model.proofs.Always.{at_most}
use Rattle.gate_model.proofs.Bounds.{bounded_at, each_there}
use Rattle.gate_model.proofs.Seen.{trimmed, seen, seen_at}
use Rattle.gate_model.proofs.Twins.{StandAlike, Twins, mark_same, same_but_marks}
use Rattle.gate_model.proofs.Widths.{Wide, wide_at}

-- lists that are equal at the first n places have the same first n values
pub same_take : {X : Type 0} (n : ℕ) (xs ys : List X) (d : X) → n ≤ length xs → n ≤ length ys → ((k : ℕ) → k < n → get_or xs k d ≡ get_or ys k d) → take n ys ≡ take n xs
same_take n xs ys d long other h =
    ext_get_or d (take n ys) (take n xs) (omega (arith, length-take n ys, length-take n xs))
    (λ k l. let below : k < n = omega (arith, l, length-take n ys) in get_or-take n ys k d below ∙ (sym (h k below) ∙ sym (get_or-take n xs k d below)))

-- records with the same progress and mark are equal as far as n arms go
same_trimmed : {At : Type 0} (n : ℕ) (a b : Arm At) → n ≤ arm_limit → Wide a → Wide b → SameProgress n a b → a.out ≡ b.out → trimmed true n b ≡ trimmed true n a
same_trimmed n a b few wide other h marks =
    let row = same_take n a.row b.row 0 (omega (arith, few, wide.row)) (omega (arith, few, other.row)) h.row in
    let notes = same_take n a.notes b.notes _ (omega (arith, few, wide.notes)) (omega (arith, few, other.notes)) h.notes in
    λ i. record { position = sym h.position i; side = sym h.side i; visits = sym h.visits i; out = sym marks i; row = row i; notes = notes i }

module _ {At : Type 0} (door : Table At) where
  -- gates that stand alike are the same
  pub same_gates : (s t : State At) → StandAlike door true s t → SameGates door s t
  same_gates s t h = record {
    but_marks = same_but_marks door true s t h;
    number = sym (h.number tt);
    marks = λ i lo hi. sym (mark_same door true s t h i tt (arm_is s i lo hi));
  }

  -- there are n records as far as n arms go
  length_seen : (w : Bool) (n : ℕ) (arms : List (Arm At)) → n ≤ length arms → length (seen door w n arms) ≡ n
  length_seen w n arms long = length-map (take n arms) (trimmed w n) ∙ (let e = length-take n arms in omega (arith, e))

  -- gates that are the same stand alike
  pub twins_of : (s t : State At) → IsReached door s → IsReached door t → SameGates door s t → Twins door true s t
  twins_of s t reached other h =
      let n = h.but_marks.n in
      let few : s.n ≤ arm_limit = at_most door s.n arm_limit (λ o. (bounded_at door s o).few) reached in
      let there = each_there door s reached in
      let other_there : s.n ≤ length t.arms = (let l = each_there door t other in omega (arith, n, l)) in
      let of_arm : (i : ℕ) → 1 ≤ i → i ≤ s.n → trimmed true s.n (arm_at door t i) ≡ trimmed true s.n (arm_at door s i) =
      λ i lo hi.
      let below : i - 1 < arm_limit = omega (arith, lo, hi, few) in
      same_trimmed s.n (arm_at door s i) (arm_at door t i) few (wide_at door s reached (i - 1) below) (wide_at door t other (i - 1) below) (h.but_marks.arms i lo hi) (h.marks i lo hi) in
      let at_place : (k : ℕ) → k < s.n → trimmed true s.n (get_or t.arms k (no_arm door)) ≡ trimmed true s.n (get_or s.arms k (no_arm door)) =
      λ k l.
      let back : k + 1 - 1 ≡ k = omega arith in
      subst (λ j. trimmed true s.n (get_or t.arms j (no_arm door)) ≡ trimmed true s.n (get_or s.arms j (no_arm door))) back (of_arm (k + 1) (omega arith) (omega (arith, l))) in
      record {
        same = record {
          number = λ _. sym h.number;
          n = sym n;
          arms = ext_get_or (no_arm door) (seen door true s.n t.arms) (seen door true s.n s.arms) (length_seen true s.n t.arms other_there ∙ sym (length_seen true s.n s.arms there))
              (λ k l. let below : k < s.n = omega (arith, l, length_seen true s.n t.arms other_there) in
              seen_at door true s.n t.arms k below ∙ at_place k below ∙ sym (seen_at door true s.n s.arms k below));
          registers = λ some q l. sym (h.but_marks.registers some q l);
          turns = sym h.but_marks.turns;
        };
        reached = reached;
        other = other;
      }
