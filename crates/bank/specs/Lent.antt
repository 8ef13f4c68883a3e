-- The memory that a bank writes, and the log of its writes.
use Rattle.std.specs.Prelude.{ℕ, List, ◌∷◌, Option, Some, None}

-- one write: a value to a register
pub record Write : Type 0 where
  pub register : ℕ
  pub value : ℕ

-- name: which borrowed memory it is, 0 where the bank owns its registers;
-- log: the writes that were asked of the bank, accepted or refused, the latest first; none where it keeps no log
pub record Lent : Type 0 where
  pub name : ℕ
  pub log : Option (List Write)

abbrev pub logged : Write → Option (List Write) → Option (List Write)
logged w (Some log) = Some (w ∷ log)
logged w None = None

-- the memory after a write of v to register i was asked of the bank. What is proved over every bank is proved over those
-- that keep a log too, so it says which writes are made, and in which order
abbrev pub touched : Lent → ℕ → ℕ → Lent
touched lent i v = record lent { log = logged (record { register = i; value = v }) lent.log }

-- memory of a bank that keeps no log
abbrev pub unlogged : ℕ → Lent
unlogged name = record { name = name; log = None }
