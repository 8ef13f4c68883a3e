-- What the plant asks for, and what its probes show.
use Rattle.std.specs.Prelude.{ℕ, ◌+◌, ◌*◌, ◌/◌, ◌%◌, if◌then◌else◌, Some, None, Option, ◌==◌, pos, ◌-ℤ◌}
use Rattle.dispatcher.specs.declared.reading.Reading.{Reading}

-- how many arms the plant has
abbrev pub plant_arms : ℕ
plant_arms = 6

-- the arm that asks before the move of a time: one before every twelfth move, 1 to 7 in turn
abbrev pub asked_at : ℕ → Option ℕ
asked_at time = if time % 12 == 0 then Some (time / 12 % 7 + 1) else None

-- tenths of a degree above -20.0, of an arm after the move of a time
abbrev pub shown_at : ℕ → ℕ → ℕ
shown_at arm time = (arm % 32 * 137 + time % 1000 * 29) % 1000

-- the reading of an arm then
abbrev pub reading_at : ℕ → ℕ → Reading
reading_at arm time = record { arm = arm; tenths = pos (shown_at arm time) -ℤ pos 200 }
