-- A number in a file: one or two groups of seven bits, the lowest first, a byte each. The top bit says that another follows.
use Rattle.std.specs.Prelude.{ℕ, ◌+◌, ◌*◌, ◌/◌, ◌%◌, if◌then◌else◌, List, [], ◌∷◌, Ok, Err, Result, ◌==◌, nat_lt}
use Rattle.schedule.specs.declared.number.Number.{Number}
use Rattle.schedule.specs.declared.fault.NumberFault.{NumberFault}
use Rattle.schedule.specs.declared.fault.NumberFault.TheVariants.{Cut, Padded, Large}

-- the bytes of a number
abbrev pub groups : ℕ → List ℕ
groups k = if nat_lt k 128 then k ∷ [] else (k % 128 + 128) ∷ (k / 128) ∷ []

abbrev pub one_group : ℕ → ℕ → Result Number NumberFault
one_group place low = Ok (record { value = low; next = place + 1 })

-- the second of two groups ends the number and is not 0
abbrev pub two_groups : ℕ → ℕ → ℕ → Result Number NumberFault
two_groups place low high =
    if high == 0 then Err (Padded place)
    else if nat_lt high 128 then Ok (record { value = low % 128 + 128 * high; next = place + 2 })
    else Err (Large place)

-- the number that the bytes from a place on begin with, and the place after it
abbrev pub number_from : ℕ → List ℕ → Result Number NumberFault
number_from place [] = Err (Cut place)
number_from place (low ∷ []) = if nat_lt low 128 then one_group place low else Err (Cut place)
number_from place (low ∷ high ∷ rest) = if nat_lt low 128 then one_group place low else two_groups place low high
