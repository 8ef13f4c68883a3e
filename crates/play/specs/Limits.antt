-- How much memory a text asks for.
use Rattle.std.specs.Prelude.{ℕ}

-- the least memory for a report or a fault line, in bytes
abbrev pub report_room : ℕ
report_room = 4096
