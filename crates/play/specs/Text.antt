-- Lines as text, and a text in a memory.
use Rattle.std.specs.Prelude.{ℕ, zero, suc, List, [], ◌++◌, length, drop}

-- line 0, line 1 and so on, n lines
abbrev pub lines : (ℕ → List ℕ) → ℕ → List ℕ
lines line zero = []
lines line (suc n) = lines line n ++ line n

-- a memory after a text was copied to its start
abbrev pub overwritten : List ℕ → List ℕ → List ℕ
overwritten memory bytes = bytes ++ drop (length bytes) memory
