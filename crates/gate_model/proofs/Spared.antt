-- A step touches no register but the one of its access.
use Rattle.std.proofs.Common.{◌≡◌, ℕ, ◌-◌, List, get_or, set, Option, sym, refl, ap, ◌∙◌, arith}
use Rattle.std.proofs.lemmas.List.{get_or-set_other}
use Rattle.gate_model.specs.Registers.{regs_after}
use Rattle.gate_model.specs.Table.{Table}
use Rattle.gate_model.specs.Accesses.{Spares, OneAccess}
use Rattle.gate_model.specs.Arms.{advanced}
use Rattle.gate_model.specs.Calls.{refusal_of, done, after, unless, access_at}
use Rattle.gate_model.specs.States.{State, arm_at, phase_at}
use Rattle.gate_model.specs.Tallies.{tallied}
use Rattle.gate_model.specs.declared.access.Access.{Access}
use Rattle.gate_model.specs.declared.arm.Arm.{Arm}
use Rattle.gate_model.specs.declared.call.Call.TheVariants.{Step as step}
use Rattle.gate_model.specs.declared.refusal.Refusal.{Refusal}
use Rattle.gate_model.proofs.Accepted.{unless_both}

spared : (high : ℕ) (regs : List ℕ) (a : Access) (q : ℕ) → Spares a q → get_or (regs_after high regs a) q 0 ≡ get_or regs q 0
spared high regs a q h = grind (arith, get_or-set_other)

module _ {At : Type 0} (door : Table At) where
  -- the same records, refused or not
  unless_arms : (r : Option Refusal) (x y x' y' : State At) → x.arms ≡ x'.arms → y.arms ≡ y'.arms → (unless r x y).arms ≡ (unless r x' y').arms
  unless_arms r x y x' y' new old = grind arith

  -- the records after a step that read v
  abbrev pub arms_having_read : State At → ℕ → ℕ → List (Arm At)
  arms_having_read s i v =
      let arm = advanced door s.n v (arm_at door s i) in
      tallied door (i - 1) (phase_at door s i) (door.phase arm.position) (set s.arms (i - 1) arm)

  pub one_access : (s t : State At) (i : ℕ) → t ≡ after door s (step i) → OneAccess door s i t
  one_access s t i e =
      record {
        writes_one = λ q h.
            ap (λ x. get_or x.regs q 0) e
            ∙ unless_both (refusal_of door s (step i)) (done door s (step i)) s (λ x. get_or x.regs q 0 ≡ get_or s.regs q 0)
            (λ _. spared s.high s.regs (access_at door s i) q h) refl;
        reads_one = λ other h.
            let o : State At = record s { regs = other } in
            unless_arms (refusal_of door s (step i)) (done door o (step i)) o (done door s (step i)) s (ap (arms_having_read s i) h) refl
            ∙ ap (λ x. x.arms) (sym e);
      }
