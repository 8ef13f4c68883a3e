-- What no call alters: how many arms and registers there are, how high the registers go, and over which memory the bank is.
use Rattle.std.proofs.Common.{◌≡◌, ℕ, zero, suc, List, length, refl, ◌∙◌, arith}
use Rattle.std.proofs.lemmas.List.{length-set}
use Rattle.bank.specs.Lent.{Lent}
use Rattle.gate_model.specs.Making.{Making, arms_of, cleared_memory, made_memory}
use Rattle.gate_model.specs.Registers.{regs_after}
use Rattle.gate_model.specs.Table.{Table}
use Rattle.gate_model.specs.States.{State, made}
use Rattle.gate_model.specs.Calls.{access_at, after, run}
use Rattle.gate_model.specs.declared.access.Access.{Access}
use Rattle.gate_model.specs.declared.call.Call.{Call}
use Rattle.gate_model.proofs.Always.{IsKept, kept_by, run_same}

module _ {At : Type 0} (door : Table At) where
  pub after_n : (s : State At) (c : Call) → (after door s c).n ≡ s.n
  after_n s c = grind arith

  pub run_n : (cs : List Call) (s : State At) → (run door s cs).n ≡ s.n
  run_n = run_same door (λ s. s.n) after_n

  pub run_high : (cs : List Call) (s : State At) → (run door s cs).high ≡ s.high
  run_high = run_same door (λ s. s.high) (λ s c. grind arith)

  -- the registers
  written_length : (high : ℕ) (regs : List ℕ) (a : Access) → length (regs_after high regs a) ≡ length regs
  written_length high regs a = grind (arith, length-set {A = ℕ})

  count_kept : (k : ℕ) → IsKept door (λ s. length s.regs ≡ k)
  count_kept k = record { visited = λ s c i r _ _ e. e; stepped_so = λ s i _ e. written_length s.high s.regs (access_at door s i) ∙ e }

  pub run_regs : (cs : List Call) (s : State At) → length (run door s cs).regs ≡ length s.regs
  run_regs = run_same door (λ s. length s.regs) (λ s c. kept_by door _ (count_kept (length s.regs)) s c refl)

  -- the memory; a making leaves it too
  pub after_name : (s : State At) (c : Call) → (after door s c).memory.name ≡ s.memory.name
  after_name s c = grind arith

  cleared_name : (memory : Lent) (k : ℕ) → (cleared_memory door k memory).name ≡ memory.name
  cleared_name memory zero = refl
  cleared_name memory (suc k) = cleared_name memory k

  made_name : (n : ℕ) (memory : Lent) → (made_memory door n memory).name ≡ memory.name
  made_name n memory = let e = cleared_name memory (door.room n) in grind arith

  pub memory_name : (making : Making) (cs : List Call) → (run door (made door making) cs).memory.name ≡ making.memory.name
  memory_name making cs = run_same door (λ s. s.memory.name) after_name cs (made door making) ∙ made_name (arms_of door making) making.memory
