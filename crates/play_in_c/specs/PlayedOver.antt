-- What a play through the three-bit door over lent bytes comes to.
use Rattle.std.specs.Prelude.{◌≡◌, ℕ, List, length}
use Rattle.std.specs.Result.{result_unwrap_or}
use Rattle.bank.specs.Lent.{unlogged}
use Rattle.play.specs.Playing.{playable, play_answer, play_memory, play_regs}
use Rattle.three_bits.specs.Positions.{three_bits}

-- over registers that lie in the borrowed memory of this name, and with report memory
pub record IsPlayedOver (name : ℕ) (regs file memory : List ℕ) (answer_is : ℕ) (regs_are memory_is : List ℕ) : Type 0 where
  -- the length of the report, or 0 where the file is not played
  pub answer : answer_is ≡ result_unwrap_or (play_answer three_bits (unlogged name) 255 regs (playable file (length memory))) 0
  -- the registers after the orders, or as they were
  pub registers : regs_are ≡ play_regs three_bits (unlogged name) 255 regs (playable file (length memory))
  -- the report at the start of the memory, or the memory as it was
  pub report : memory_is ≡ play_memory three_bits (unlogged name) 255 regs memory (playable file (length memory))
