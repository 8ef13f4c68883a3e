-- Memory that a list is put into: the list stands at its start, and the rest is as it was. A list that is too long is not put in.
use Rattle.std.specs.Prelude.{if◌then◌else◌, List, ◌++◌, length, drop, nat_le}

abbrev pub put_into : {X : Type 0} → List X → List X → List X
put_into memory items = if nat_le (length items) (length memory) then items ++ drop (length items) memory else memory
