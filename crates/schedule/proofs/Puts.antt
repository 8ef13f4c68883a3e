-- What one or two bytes written at a place make of the memory.
use Rattle.std.proofs.Common.{◌≡◌, ℕ, ◌+◌, ◌<◌, ◌≤◌, List, [], ◌∷◌, ◌++◌, length, take, drop, set, arith}
use Rattle.std.proofs.lemmas.List.Edits.{sets, sets-eq}
use Rattle.std.proofs.lemmas.Bool.Decides.{nat_tests}
use Rattle.schedule.specs.Memory.{put_into}

pub set_one : (xs : List ℕ) (at low : ℕ) → at < length xs → set xs at low ≡ take at xs ++ low ∷ [] ++ drop (at + 1) xs
set_one xs at low h = sets-eq (low ∷ []) xs at (omega arith)

pub set_two : (xs : List ℕ) (at low high : ℕ) → at + 1 < length xs → set (set xs at low) (at + 1) high ≡ take at xs ++ low ∷ high ∷ [] ++ drop (at + 2) xs
set_two xs at low high h = let s = sets-eq (low ∷ high ∷ []) xs at (omega arith) in grind arith

-- a list that fits, written from the start on
pub put_all : {X : Type 0} (items memory : List X) → length items ≤ length memory → sets memory 0 items ≡ put_into memory items
put_all items memory h = let s = sets-eq items memory 0 (omega arith) in grind (arith, nat_tests)
