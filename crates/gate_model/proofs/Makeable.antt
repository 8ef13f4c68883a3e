-- The access of an accepted step can be made, where the door's accesses stay in the room: its register is there, and its value is taken.
use Rattle.std.proofs.Common.{◌≡◌, ℕ, ◌≤◌, T, IsTrue, eqb, List, length, None, sym, refl, ap, ◌∙◌, subst, arith}
use Rattle.std.proofs.lemmas.Bool.{cond_both}
use Rattle.std.proofs.lemmas.Bool.Decides.{nat_tests}
use Rattle.gate_model.specs.Table.{Table}
use Rattle.gate_model.specs.Accesses.{can_make, InRoom, ShowsAccesses}
use Rattle.gate_model.specs.Calls.{refusal_of, step_refusal, access_at}
use Rattle.gate_model.specs.History.{accepted, no_refusal}
use Rattle.gate_model.specs.Law.{Origin, IsReached}
use Rattle.gate_model.specs.Making.{made_regs, cleared}
use Rattle.gate_model.specs.States.{State, made, phase_at}
use Rattle.gate_model.specs.declared.access.Access.{Access}
use Rattle.gate_model.specs.declared.call.Call.TheVariants.{Step as step}
use Rattle.gate_model.proofs.Accepted.{known_arm}
use Rattle.gate_model.proofs.Always.{at_origin, true_at}
use Rattle.gate_model.proofs.Bools.{is_true}
use Rattle.gate_model.proofs.Rooms.{arms_fit, length_cleared}
use Rattle.gate_model.proofs.Unaltered.{run_n, run_high, run_regs}

module _ {At : Type 0} (door : Table At) where
  made_length : (n : ℕ) (regs : List ℕ) → door.room n ≤ length regs → length (made_regs door n regs) ≡ length regs
  made_length n regs h = cond_both (eqb n 0) regs (cleared door (door.room n) regs) (λ rs. length rs ≡ length regs) (λ _. refl) (λ _. length_cleared door (door.room n) regs h)

  -- a gate with arms has the registers that they take, with the values that they need
  pub fits_bank : (s : State At) → Origin door s → 1 ≤ s.n → (door.room s.n ≤ length s.regs) × (door.needed ≤ s.high)
  fits_bank s p some =
      let making = p.making in
      let start : State At = made door making in
      let size : s.n ≡ start.n = sym (ap (λ t. t.n) p.leads) ∙ run_n door p.calls start in
      let high : s.high ≡ making.high = sym (ap (λ t. t.high) p.leads) ∙ run_high door p.calls start in
      let fit = arms_fit door making.high (length making.regs) making.wanted (omega arith) in
      let len : length s.regs ≡ length making.regs = sym (ap (λ t. length t.regs) p.leads) ∙ (run_regs door p.calls start ∙ made_length start.n making.regs fit.0) in
      (let x = fit.0 in subst (λ k. door.room k ≤ length s.regs) (sym size) (omega arith), let x = fit.1 in omega arith)

  in_room : (s : State At) (a : Access) → door.room s.n ≤ length s.regs → door.needed ≤ s.high → InRoom door s.n a → T (can_make s a)
  in_room s a fits bits h = grind (arith, nat_tests)

module _ {At : Type 0} (door : Table At) (shown : ShowsAccesses door) where
  -- an accepted step accesses one of them
  pub accesses_one : (s : State At) (i : ℕ) → Origin door s → refusal_of door s (step i) ≡ None → InRoom door s.n (access_at door s i)
  accesses_one s i p e =
      let yes : T (accepted door s (step i)) = subst (λ x. T (no_refusal x)) (sym e) tt in
      at_origin door (λ t. (i : ℕ) → T (accepted door t (step i)) → InRoom door t.n (access_at door t i)) shown s p i yes

  from_origin : (s : State At) (i : ℕ) → Origin door s → refusal_of door s (step i) ≡ None → T (can_make s (access_at door s i))
  from_origin s i p e =
      let r = known_arm s i (step_refusal (phase_at door s i)) e in
      let room = fits_bank door s p (let x = r.0 in let y = r.1 in omega arith) in
      in_room door s (access_at door s i) room.0 room.1 (accesses_one s i p e)

  -- the same of a gate that a making and calls lead to
  pub makes_reached : (s : State At) (i : ℕ) → IsReached door s → refusal_of door s (step i) ≡ None → T (can_make s (access_at door s i))
  makes_reached s i reached e = true_at door (can_make s (access_at door s i)) (λ p. from_origin s i p e) reached

  pub makeable : (s : State At) (i : ℕ) → IsReached door s → refusal_of door s (step i) ≡ None → IsTrue (can_make s (access_at door s i))
  makeable s i reached e = is_true (can_make s (access_at door s i)) (makes_reached s i reached e)
