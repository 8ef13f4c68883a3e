-- Numbers that look drawn by chance.
use Rattle.std.specs.Prelude.{ℕ, ◌+◌, ◌*◌, ◌/◌, ◌%◌, ◌^◌, if◌then◌else◌, ◌==◌}

-- the state of the dice after a roll
abbrev pub rolled : ℕ → ℕ
rolled state = (state * 6364136223846793005 + 1442695040888963407) % 2 ^ 64

-- what the dice then show
abbrev pub face : ℕ → ℕ → ℕ
face state sides = if sides == 0 then 0 else (state / 2 ^ 33) % sides
