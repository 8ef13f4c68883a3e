-- A door with a plan reads the bit exactly once in each doorway, and an arm's index is one of the n while it waits.
use Rattle.std.proofs.Common.{◌≡◌, ℕ, ◌≤◌, Bool, T, None, sym, refl, ap, ◌∙◌, subst, arith}
use Rattle.gate_model.specs.Calls.{refusal_of, access_at, stepped, after, unless, run}
use Rattle.gate_model.specs.Doorways.{gets_side, ReadsAsTold, ShowsReads}
use Rattle.gate_model.specs.History.{of_group, is_in}
use Rattle.gate_model.specs.Indexes.{IndexFits, ShowsIndexes}
use Rattle.gate_model.specs.Meaning.{meaning_of}
use Rattle.gate_model.specs.States.{State, made}
use Rattle.gate_model.specs.Table.{Table}
use Rattle.gate_model.specs.declared.call.Call.TheVariants.{Step}
use Rattle.gate_model.specs.declared.phase.Phase.TheVariants as P
use Rattle.gate_model.proofs.Accepted.{arm_in}
use Rattle.machine.specs.Kinds.{Kind}
use Rattle.machine.proofs.Machine.{Stance, waits, phase, at, step_arm, with_stance_same, step, moved}
use Rattle.machine.proofs.Invariant.{Own, inv_moved}
use Rattle.machine.proofs.Rules.{stage}
use Rattle.simulation.proofs.Layouts.{is_d2, looks_at, reads_group}
use Rattle.simulation.proofs.Plans.{Plan}
use Rattle.simulation.proofs.Simulates.{phase_is, access_is}
use Rattle.simulation.proofs.EveryCall.{Sound, sound, step_sound, step_moves, phase_shown}
use Rattle.simulation.proofs.RulesShown.{arms_meant}

-- a stance gets its side at d2
d2_gets : (δ : Kind) (n : ℕ) (β : Bool) (arms : ℕ → Stance) (a : Stance) → is_d2 a ≡ gets_side (stage a) (stage (step_arm δ n β arms a))
d2_gets δ n β arms a = grind arith

index_fits : (n m : ℕ) (β : Bool) (arms : ℕ → Stance) (a : Stance) → m ≡ n → Own m β arms a → IndexFits n (phase a) (looks_at a)
index_fits n m β arms (waits u j p) e h = (h.0, let y = h.1 in omega arith)
index_fits n m β arms a e h = refl

module _ {At : Type 0} {door : Table At} (plan : Plan door) where
  step_reads : (s : State At) (i : ℕ) → refusal_of door s (Step i) ≡ None → T (is_in door P.D s i) → Sound plan s s.n → ReadsAsTold door s i
  step_reads s i e d h =
      let g = h.machine in
      let a = g.arms i in
      let m = step_moves s g h.simulates h.keeps i e in
      let hi : i ≤ g.n = let z = h.arms_are in let y = m.hi in omega arith in
      let here : T (at P.D a) = subst T (phase_shown s g h.simulates P.D i m.lo hi) d in
      let reads : of_group (access_at door s i) ≡ is_d2 a = ap of_group (access_is s g h.simulates i m.lo m.hi) ∙ reads_group plan.kind i a here in
      let before : (meaning_of door s).arms i ≡ stage a = arms_meant s g h.simulates h.keeps i in
      let later : (meaning_of door (after door s (Step i))).arms i ≡ stage (step_arm g.kind g.n g.group g.arms a) =
      ap (λ r. (meaning_of door (unless r (stepped door i s) s)).arms i) e
      ∙ (arms_meant (stepped door i s) (moved g step i) m.still_simulates (inv_moved g h.keeps step i m.lo hi) i ∙ ap stage (with_stance_same g.arms i _)) in
      record {
        as_marked = reads ∙ sym (ap door.reads_bit (h.simulates.shows i m.lo m.hi).stands ∙ plan.reads a);
        gives_side = reads ∙ (d2_gets g.kind g.n g.group g.arms a ∙ rw (before, later) refl);
      }

  pub reads_by : ShowsReads door
  reads_by making past i h d = let r = step_sound plan making past i h in step_reads _ i r.0 d r.1

  pub indexes_by : ShowsIndexes door
  indexes_by making past i h =
      let now = run door (made door making) past in
      let r = arm_in now i h in
      let h = sound plan making past (let lo = r.0 in let hi = r.1 in omega arith) in
      let g = h.machine in
      rw (phase_is now g h.simulates i r.0 r.1, ap door.index (h.simulates.shows i r.0 r.1).stands ∙ plan.indexed (g.arms i))
      (index_fits now.n g.n g.group g.arms (g.arms i) h.arms_are (h.keeps.own i))
