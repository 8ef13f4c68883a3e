-- How often an arm went inside past one that has ended its doorway, until that one is idle, over every history of a gate whose door shows the rules.
use Rattle.std.proofs.Common.{◌≡◌, ℕ, ◌+◌, ◌≤◌, Bool, false, cond, not, ◌&&◌, T, ◌⊎◌, inl, List, [], ◌∷◌, sym, refl, subst, ⊎_elim, arith}
use Rattle.std.proofs.lemmas.Bool.{cases_eq}
use Rattle.std.proofs.lemmas.Bool.Decides.{nat_tests}
use Rattle.gate_model.specs.Phases.{same_phase}
use Rattle.gate_model.specs.Table.{Table}
use Rattle.gate_model.specs.Making.{Making}
use Rattle.gate_model.specs.States.{State, made, phase_at}
use Rattle.gate_model.specs.Calls.{after, run}
use Rattle.gate_model.specs.History.{is_in, past_doorway, step_of, steps, ends_doorway, goes_inside, count_on, latest_idle}
use Rattle.gate_model.specs.Law.{Origin}
use Rattle.gate_model.specs.Meaning.{Stage, waiting, inside, leaving, turned, at, meaning_of, arm_of}
use Rattle.gate_model.proofs.Changes.{Goes, ends_doorway as ends, goes_inside as enters}
use Rattle.gate_model.specs.Rules.{Phased, ShowsRules}
use Rattle.gate_model.specs.declared.arm.Arm.{Arm}
use Rattle.gate_model.specs.declared.call.Call.{Call}
use Rattle.gate_model.specs.declared.phase.Phase.{Phase}
use Rattle.gate_model.specs.declared.phase.Phase.TheVariants as P
use Rattle.gate_model.proofs.Bools.{same_refl, and_T, test}
use Rattle.gate_model.proofs.Bounds.{all_there}
use Rattle.gate_model.proofs.Effects.{begins, admits, leaves}
use Rattle.overtaking.proofs.Overtaking.{Inv, inv_change, past_doorway as is_past_doorway, is_past, Counted, count_change}
use Rattle.gate_model.proofs.Meant.{two_phases, phase_meant, change_at, start_rests}
use Rattle.gate_model.proofs.Origins.{origin_made, origin_after}
use Rattle.gate_model.proofs.Records.{Became, stays, visited, moved_on, became_by}
use Rattle.gate_model.proofs.Unaltered.{after_n}

absorb : (x y : Bool) → (T y → T x) → (x && y) ≡ y
absorb x y h = grind arith

-- the phases of a change that only a step makes
abbrev Past : Phase → Type 0
Past q = (T (same_phase P.D q) → ⊥) × (T (same_phase P.X q) → ⊥)

-- an arm that waits after a change waited before it, or ended its doorway; one that waited before it waits on, or went inside
abbrev Waiting : Stage → Stage → Type 0
Waiting a a' = (T (at P.W a') → T (at P.W a) ⊎ T (at P.D a && at P.W a')) × (T (at P.W a) → T (at P.W a') ⊎ T (at P.W a && at P.F a'))

waiting_goes : (bit : Bool) (arms : ℕ → Stage) (a a' : Stage) (b' : Bool) → Goes bit arms a a' b' → Waiting a a'
waiting_goes bit arms a a' b' goes = ((λ h. grind arith), (λ h. grind arith))

past_side : (a : Stage) → T (is_past_doorway a) → (t : Bool) × T (is_past t a)
past_side (waiting t) h = (t, same_refl t)
past_side (inside t) h = (t, same_refl t)
past_side (leaving t) h = (t, same_refl t)
past_side (turned t) h = (t, same_refl t)
past_side a h = absurd h

module _ {At : Type 0} (door : Table At) where
  -- an arm in such a phase after a call that is no step of it was so before
  was_so : Phased door → (s : State At) (v : ℕ) (q : Phase) → Past q → (c : Call) (ok : Bool) (a : Arm At) → Became door s v c ok a
      → T (not (ok && step_of v c)) → T (same_phase (door.phase a.position) q) → T (is_in door q s v)
  was_so phased s v q past c ok a (stays _ seen) d t = subst (λ p. T (same_phase (door.phase p) q)) seen.0 t
  was_so phased s v q past c ok a (visited (begins _ _)) d t = absurd (past.0 (subst (λ p. T (same_phase p q)) phased.entry t))
  was_so phased s v q past c ok a (visited (admits _)) d t = t
  was_so phased s v q past c ok a (visited (leaves _ _)) d t = absurd (past.1 (subst (λ p. T (same_phase p q)) phased.exit t))
  was_so phased s v q past c ok a (moved_on _ _ _) d t = absurd (grind (arith, nat_tests))

  -- so a change of phase that the meaning shows is a step that the history shows
  module _ (phased : Phased door) (s : State At) (origin : Origin door s) (c : Call) (v : ℕ) (lo : 1 ≤ v) (hi : v ≤ s.n) where
    steps_so : (p q : Phase) → Past q → (T (same_phase p q) → ⊥) → T (is_in door p s v && is_in door q (after door s c) v) → T (steps door v s c)
    steps_so p q past d h =
        let x = and_T (is_in door p s v) (is_in door q (after door s c) v) h in
        ⊎_elim (λ t. t) (λ n. absurd (two_phases (phase_at door s v) p q d x.0 (was_so phased s v q past c _ _ (became_by door s (all_there door s origin) v lo c) n x.1))) (test (steps door v s c))

    shown_change : (p q : Phase) → Past q → (T (same_phase p q) → ⊥) → (at p ((meaning_of door s).arms v) && at q ((meaning_of door (after door s c)).arms v)) ≡ (steps door v s c && (is_in door p s v && is_in door q (after door s c) v))
    shown_change p q past d =
        let x = phase_meant door s p v lo hi in
        let y = phase_meant door (after door s c) q v lo (let z = after_n door s c in omega arith) in
        rw (x, y) (sym (absorb (steps door v s c) (is_in door p s v && is_in door q (after door s c) v) (steps_so p q past d)))

    pub ends_shown : ends v (meaning_of door s) (meaning_of door (after door s c)) ≡ ends_doorway door v s c
    ends_shown = shown_change P.D P.W ((λ t. absurd t), (λ t. absurd t)) (λ t. absurd t)

    pub enters_shown : enters v (meaning_of door s) (meaning_of door (after door s c)) ≡ goes_inside door v s c
    enters_shown = shown_change P.W P.F ((λ t. absurd t), (λ t. absurd t)) (λ t. absurd t)

    -- an arm that waits after a call waited before it, or ended its doorway by it; one that waited before it waits on, or went inside by it
    pub waiting_call : ShowsRules door
        → (T (is_in door P.W (after door s c) v) → T (is_in door P.W s v) ⊎ T (ends_doorway door v s c))
        × (T (is_in door P.W s v) → T (is_in door P.W (after door s c) v) ⊎ T (goes_inside door v s c))
    waiting_call rules =
        let change = change_at door rules s origin c in
        let m = meaning_of door s in
        let m' = meaning_of door (after door s c) in
        let x : Waiting (m.arms v) (m'.arms v) = ⊎_elim
        (λ q. waiting_goes m.bit m.arms (m.arms v) (m'.arms v) m'.bit (subst (λ y. Goes m.bit m.arms (m.arms y) (m'.arms y) m'.bit) q change.goes))
        (λ ne. subst (Waiting (m.arms v)) (sym (change.frame v (λ z. ne (sym z)))) (inl, inl))
        (cases_eq (arm_of c) v) in
        rw (sym ends_shown, sym enters_shown, sym (phase_meant door s P.W v lo hi), sym (phase_meant door (after door s c) P.W v lo (let z = after_n door s c in omega arith))) x

  -- k entries of b since w ended its doorway, o tells whether b was idle then
  pub record Overtaken (w b : ℕ) (s : State At) (k : ℕ) (o : Bool) : Type 0 where
    pub origin : Origin door s
    pub inv : Inv (meaning_of door s)
    pub counted : Counted w b (meaning_of door s) k o

  module _ (phased : Phased door) (rules : ShowsRules door) (w b : ℕ) (wlo : 1 ≤ w) (blo : 1 ≤ b) where
    pub overtaken_call : (s : State At) → w ≤ s.n → b ≤ s.n → (k : ℕ) (o : Bool) → Overtaken w b s k o → (c : Call)
        → Overtaken w b (after door s c) (cond (ends_doorway door w s c) 0 (cond (goes_inside door b s c) (k + 1) k)) (cond (ends_doorway door w s c) (is_in door P.I s b) o)
    overtaken_call s whi bhi k o h c =
        let change = change_at door rules s h.origin c in
        record {
          origin = origin_after door s c _ refl h.origin;
          inv = inv_change (meaning_of door s) (meaning_of door (after door s c)) (arm_of c) change h.inv;
          counted =
              rw (sym (ends_shown phased s h.origin c w wlo whi), sym (enters_shown phased s h.origin c b blo bhi), sym (phase_meant door s P.I b blo bhi))
              (count_change w b (meaning_of door s) (meaning_of door (after door s c)) (arm_of c) change h.inv k o h.counted);
        }

    pub overtaken_run : (cs : List Call) (s : State At) → w ≤ s.n → b ≤ s.n → (k : ℕ) (o : Bool) → Overtaken w b s k o → Overtaken w b (run door s cs) (count_on door w b s cs k) (latest_idle door w b s cs o)
    overtaken_run [] s whi bhi k o h = h
    overtaken_run (c ∷ cs) s whi bhi k o h = overtaken_run cs (after door s c) (let z = after_n door s c in omega arith) (let z = after_n door s c in omega arith) _ _ (overtaken_call s whi bhi k o h c)

  pub side_then : (w : ℕ) (s : State At) → 1 ≤ w → w ≤ s.n → T (past_doorway door s w) → (t : Bool) × T (is_past t ((meaning_of door s).arms w))
  side_then w s lo hi t = past_side ((meaning_of door s).arms w) (rw (phase_meant door s P.W w lo hi, phase_meant door s P.F w lo hi, phase_meant door s P.X w lo hi) t)

  pub bound : (w b : ℕ) (s : State At) → 1 ≤ w → w ≤ s.n → (k : ℕ) (o : Bool) → Overtaken w b s k o → T (past_doorway door s w) → (k ≤ 2) × (T o → k ≤ 1)
  bound w b s lo hi k o h t =
      let v = side_then w s lo hi t in
      let x = h.counted v.0 v.1 in
      ((let y = x.0 in omega arith), λ t. let y = x.1 t in omega arith)

  pub once_itself : (w : ℕ) (s : State At) → 1 ≤ w → w ≤ s.n → (k : ℕ) (o : Bool) → Overtaken w w s k o → T (past_doorway door s w) → k ≡ cond (is_in door P.W s w) 0 1
  once_itself w s lo hi k o h t =
      let v = side_then w s lo hi t in
      let x = h.counted v.0 v.1 in
      let y = x.0 in
      let z = x.2 in
      rw (sym (phase_meant door s P.W w lo hi)) (grind (arith, nat_tests))

  -- from a making on
  pub start_overtaken : Phased door → (making : Making) (w b : ℕ) → Overtaken w b (made door making) 0 false
  start_overtaken phased making w b = record {
    origin = origin_made door making _ refl;
    inv = λ k. let e = start_rests door phased making k in grind arith;
    counted = λ u q. let e = start_rests door phased making w in grind arith;
  }
