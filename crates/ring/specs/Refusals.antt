-- When a ring refuses, with which number, and which word that prints.
use Rattle.std.specs.Prelude.{ℕ, codes, if◌then◌else◌, List, Ok, Err, Result}
use Rattle.ring.specs.Spans.{has_room}
use Rattle.ring.specs.declared.refusal.Refusal.{Refusal}
use Rattle.ring.specs.declared.refusal.Refusal.TheVariants.{RingFull}
use Rattle.ring.specs.declared.span.Span.{Span}

abbrev pub refusal_number : Refusal → ℕ
refusal_number RingFull = 17

abbrev pub refusal_word : Refusal → List ℕ
refusal_word RingFull = codes "ring full"

-- what put answers
abbrev pub put_answer : {X : Type 0} → Span → List X → Result (Unit {0}) Refusal
put_answer s slots = if has_room s slots then Ok tt else Err RingFull
