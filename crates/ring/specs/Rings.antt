-- A ring: items in the order in which they were put in.
use Rattle.std.specs.Prelude.{ℕ, Bool, if◌then◌else◌, not, List, [], ◌∷◌, ◌++◌, length}
use Rattle.ring.specs.Spans.{laid, has_room, put_span, put_slots, taken_span}
use Rattle.ring.specs.declared.span.Span.{Span}

-- memory: which borrowed memory it is; slots: what that holds; span: which places of it hold items
pub record Held (X : Type 0) : Type 0 where
  pub memory : ℕ
  pub slots : List X
  pub span : Span

module _ {X : Type 0} where
  -- what a ring is to a host: the list of its items, first to last
  abbrev pub items : Held X → List X
  items r = laid r.span r.slots

  -- an empty ring over memory whose places hold slots
  abbrev pub emptied : ℕ → List X → Held X
  emptied memory slots = record { memory = memory; slots = slots; span = record { head = 0; count = 0 } }

  -- whether no other item fits
  abbrev pub is_full : Held X → Bool
  is_full r = not (has_room r.span r.slots)

  -- the items once one more is put behind them, where it fits
  abbrev pub with_item : X → Held X → List X
  with_item x r = if has_room r.span r.slots then items r ++ x ∷ [] else items r

  -- the ring once an item is put behind the others: one place of its memory is written; a full ring stays as it is
  abbrev pub put_in : X → Held X → Held X
  put_in x r = record r { slots = put_slots x r.span r.slots; span = put_span r.span r.slots }

  -- the ring once its first item is taken out: its memory stays as it is, and so does an empty ring
  abbrev pub taken : Held X → Held X
  taken r = record r { span = taken_span r.span (length r.slots) }
