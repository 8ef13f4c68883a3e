-- Where the items of a ring lie in its memory: in places one after another, where the first place follows the last.
use Rattle.std.specs.Prelude.{ℕ, ◌+◌, ◌-◌, ◌≤◌, Bool, if◌then◌else◌, List, ◌++◌, take, drop, length, ◌==◌, nat_lt, slice_set}
use Rattle.ring.specs.declared.span.Span.{Span}

-- the items lie within a memory of this size
pub record Fits (s : Span) (size : ℕ) : Type 0 where
  pub within : s.count ≤ size
  pub starts : s.head ≤ size - 1

-- the place that is behind places after the head, where the first place follows the last
abbrev pub place : Span → ℕ → ℕ → ℕ
place s behind size = if nat_lt (s.head + behind) size then s.head + behind else s.head + behind - size

-- where the items lie once the first is taken out; of no items nothing changes
abbrev pub taken_span : Span → ℕ → Span
taken_span s size = if s.count == 0 then s else record { head = place s 1 size; count = s.count - 1 }

module _ {X : Type 0} where
  -- the items, first to last: count items from the head on, of the memory followed by itself
  unfoldable pub laid : Span → List X → List X
  laid s slots = take s.count (drop s.head (slots ++ slots))

  -- whether another item fits
  abbrev pub has_room : Span → List X → Bool
  has_room s slots = nat_lt (length (laid s slots)) (length slots)

  -- where the items lie once one more is put behind them, and what the memory holds then; both are as they were where no other item fits
  abbrev pub put_span : Span → List X → Span
  put_span s slots = if has_room s slots then record s { count = s.count + 1 } else s

  abbrev pub put_slots : X → Span → List X → List X
  put_slots x s slots = if has_room s slots then slice_set slots (place s s.count (length slots)) x else slots
