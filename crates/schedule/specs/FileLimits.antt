-- The limits of a schedule file.
use Rattle.std.specs.Prelude.{ℕ, Bool, ◌&&◌, nat_le}
use Rattle.gate_model.specs.Limits.{arm_limit as gate_arms}

-- a file has at most as many arms as a gate
abbrev pub arm_limit : ℕ
arm_limit = gate_arms

abbrev pub file_limit : ℕ
file_limit = 60000

-- the largest number that two groups of seven bits hold, and the largest arm of an order with such a number
abbrev pub largest_number : ℕ
largest_number = 16383

abbrev pub largest_arm : ℕ
largest_arm = 4095

-- an arm count is 1 to the limit
abbrev pub is_arm_count : ℕ → Bool
is_arm_count n = nat_le 1 n && nat_le n arm_limit
