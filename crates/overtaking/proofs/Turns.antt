-- The turns of a gate are those of its history; an arm turns the bit at most once a visit, so that they are few.
use Rattle.std.proofs.Common.{◌≡◌, ℕ, zero, suc, ◌+◌, ◌*◌, ◌-◌, ◌≤◌, Bool, false, cond, not, ◌&&◌, T, eqb, leb, List, [], ◌∷◌, get_or, None, sym, refl, ap, ◌∙◌, subst, ⊎_elim, arith}
use Rattle.std.proofs.lemmas.Bool.{cases_eq}
use Rattle.std.proofs.lemmas.Bool.Decides.{nat_tests}
use Rattle.std.proofs.lemmas.List.{get_or-set_same, get_or-set_other}
use Rattle.gate_model.specs.Limits.{arm_limit, visit_limit}
use Rattle.gate_model.specs.Phases.{same_phase}
use Rattle.gate_model.specs.Registers.{group, regs_after, turns_bit}
use Rattle.gate_model.specs.Making.{Making}
use Rattle.gate_model.specs.Table.{Table}
use Rattle.gate_model.specs.States.{State, made, arm_at, phase_at}
use Rattle.gate_model.specs.Calls.{refusal_of, step_refusal, access_at, stepped, after, unless, run}
use Rattle.gate_model.specs.History.{is_in, step_of}
use Rattle.gate_model.specs.Law.{Origin, IsReached}
use Rattle.gate_model.specs.Meaning.{Stage, resting, turned, at, meaning_of, arm_of}
use Rattle.gate_model.specs.Rules.{Phased, Always, Keeps, ShowsRules, ShowsBits, AreBits}
use Rattle.gate_model.specs.Turns.{turns, turns_in, turns_by, TurnsTold, TurnsLaw}
use Rattle.gate_model.specs.declared.access.Access.{Access}
use Rattle.gate_model.specs.declared.arm.Arm.{Arm}
use Rattle.gate_model.specs.declared.call.Call.{Call}
use Rattle.gate_model.specs.declared.call.Call.TheVariants.{Step}
use Rattle.gate_model.specs.declared.phase.Phase.{Phase}
use Rattle.gate_model.specs.declared.phase.Phase.TheVariants as P
use Rattle.gate_model.proofs.Bools.{test, clash, none_of, is_true, is_false}
use Rattle.gate_model.proofs.Accepted.{unless_both, known_arm, arm_in}
use Rattle.gate_model.proofs.Always.{at_origin, at_most, true_at}
use Rattle.gate_model.proofs.Bounds.{bounded, bounded_at, all_there}
use Rattle.gate_model.proofs.Changes.{Goes, keeps_of}
use Rattle.gate_model.proofs.Effects.{begins, admits, leaves}
use Rattle.gate_model.proofs.Meant.{phase_meant, two_phases, change_at, start_rests}
use Rattle.gate_model.proofs.Origins.{origin_made, origin_after}
use Rattle.gate_model.proofs.Records.{Became, stays, visited, moved_on, became_by}
use Rattle.gate_model.proofs.Unaltered.{after_n, run_n}

-- an access turns the bit exactly if it changes register 0
turned_so : (high : ℕ) (regs : List ℕ) (a : Access) → turns_bit high regs a ≡ not (eqb (get_or (regs_after high regs a) group 0) (get_or regs group 0))
turned_so high regs a = grind (arith, nat_tests, get_or-set_same, get_or-set_other)

-- how often an arm may still turn the bit in its visit: 1 up to its first exit step, then 0
abbrev owes : Stage → ℕ
owes resting = 0
owes (turned t) = 0
owes a = 1

-- an arm with v visits, v' after a call of it that turned the bit t times
paid : (bit : Bool) (arms : ℕ → Stage) (a a' : Stage) (bit' : Bool) → Goes bit arms a a' bit' → (t v v' : ℕ)
    → t ≤ 1 → (bit' ≡ bit → t ≡ 0) → v ≤ v' → (T (at P.I a) → T (at P.D a') → v + 1 ≤ v') → t + (v + owes a') ≤ v' + owes a
paid bit arms a a' bit' goes t v v' one still up begun = grind arith

-- a step is a call of its arm
step_own : (b : ℕ) (c : Call) → (arm_of c ≡ b → ⊥) → step_of b c ≡ false
step_own b c ne = grind (arith, nat_tests)

no_turn : (turn mine : Bool) → mine ≡ false → cond {A = ℕ} (turn && mine) 1 0 ≡ 0
no_turn turn mine e = grind arith

-- a step of one of the first k arms
abbrev among : ℕ → Call → Bool
among k (Step i) = leb 1 i && leb i k
among k c = false

module _ {At : Type 0} (door : Table At) where
  -- the turns that the state counts
  call_turns : (s : State At) (c : Call) → (after door s c).turns ≡ s.turns + cond (turns door s c) 1 0
  call_turns s (Step i) = unless_both (refusal_of door s (Step i)) (stepped door i s) s
      (λ t. t.turns ≡ s.turns + cond (not (eqb (get_or t.regs group 0) (get_or s.regs group 0))) 1 0)
      (λ _. ap (λ b. s.turns + cond b 1 0) (turned_so s.high s.regs (access_at door s i)))
      (grind (arith, nat_tests))
  call_turns s c = grind (arith, nat_tests)

  run_turns : (cs : List Call) (s : State At) → (run door s cs).turns ≡ s.turns + turns_in door s cs
  run_turns [] s = omega arith
  run_turns (c ∷ cs) s = let x = run_turns cs (after door s c) in let y = call_turns s c in omega arith

  -- visits grow at begin, and only there does an idle arm come to its doorway
  abbrev visits_at : ℕ → State At → ℕ
  visits_at b s = (arm_at door s b).visits

  module _ (phased : Phased door) (s : State At) (b : ℕ) where
    abbrev Grew : Arm At → Type 0
    Grew r = (visits_at b s ≤ r.visits) × (T (is_in door P.I s b) → T (same_phase (door.phase r.position) P.D) → visits_at b s + 1 ≤ r.visits)

    grew : (c : Call) (ok : Bool) (a : Arm At) → Became door s b c ok a → Grew a
    grew c ok a (stays _ seen) = (let e = seen.3 in omega arith, λ i d. absurd (two_phases (phase_at door s b) P.I P.D (λ t. t) i (subst (λ p. T (same_phase (door.phase p) P.D)) seen.0 d)))
    grew c ok a (visited (begins _ _)) = (omega arith, λ i d. omega arith)
    grew c ok a (visited (admits _)) = (omega arith, λ i d. absurd (two_phases (phase_at door s b) P.I P.D (λ t. t) i d))
    grew c ok a (visited (leaves _ _)) = (omega arith, λ i d. absurd (subst (λ p. T (same_phase p P.D)) phased.exit d))
    grew c ok a (moved_on _ moving seen) = (let e = seen.3 in omega arith, λ i d. absurd (grind arith))

  -- where the bit stays, register 0 does
  still : (s : State At) (c : Call) → 1 ≤ s.n → AreBits door s → AreBits door (after door s c) → (meaning_of door (after door s c)).bit ≡ (meaning_of door s).bit → turns door s c ≡ false
  still s c some before later e =
      let n = after_n door s c in let x = before.bit in let y = later.bit in grind (arith, nat_tests)

  -- a call
  module _ (phased : Phased door) (rules : ShowsRules door) (bits : ShowsBits door) (b : ℕ) (lo : 1 ≤ b) where
    abbrev owed : State At → ℕ
    owed s = owes ((meaning_of door s).arms b)

    call_paid : (s : State At) → b ≤ s.n → (c : Call) → Origin door s
        → cond (turns door s c && step_of b c) 1 0 + (visits_at b s + owed (after door s c)) ≤ visits_at b (after door s c) + owed s
    call_paid s hi c origin =
        let s' = after door s c in
        let change = change_at door rules s origin c in
        let are_bits = at_origin door (AreBits door) bits in
        let m = meaning_of door s in
        let m' = meaning_of door s' in
        let g = grew phased s b c _ _ (became_by door s (all_there door s origin) b lo c) in
        ⊎_elim
        (λ q. paid m.bit m.arms (m.arms b) (m'.arms b) m'.bit
        (subst (λ k. Goes m.bit m.arms (m.arms k) (m'.arms k) m'.bit) q change.goes)
        (cond (turns door s c && step_of b c) 1 0) (visits_at b s) (visits_at b s')
        (grind arith)
        (λ e. ap (λ t. cond {A = ℕ} (t && step_of b c) 1 0) (still s c (omega arith) (are_bits s origin) (are_bits s' (origin_after door s c s' refl origin)) e))
        g.0
        (λ i d. g.1 (subst T (phase_meant door s P.I b lo hi) i) (subst T (phase_meant door s' P.D b lo (let z = after_n door s c in omega arith)) d)))
        (λ ne.
        let o = ap owes (change.frame b (λ e. ne (sym e))) in
        let up = g.0 in
        omega (arith, no_turn (turns door s c) (step_of b c) (step_own b c ne)))
        (cases_eq (arm_of c) b)

    -- a list of calls
    run_paid : (cs : List Call) (s : State At) → b ≤ s.n → Origin door s → turns_by door b s cs + (visits_at b s + owed (run door s cs)) ≤ visits_at b (run door s cs) + owed s
    run_paid [] s hi origin = omega arith
    run_paid (c ∷ cs) s hi origin =
        let x = call_paid s hi c origin in
        let y = run_paid cs (after door s c) (let z = after_n door s c in omega arith) (origin_after door s c _ refl origin) in
        omega arith

  -- the turns by the first k arms
  abbrev turns_among : ℕ → State At → List Call → ℕ
  turns_among k s [] = 0
  turns_among k s (c ∷ cs) = cond (turns door s c && among k c) 1 0 + turns_among k (after door s c) cs

  none_among : (cs : List Call) (s : State At) → turns_among 0 s cs ≡ 0
  none_among [] s = refl
  none_among (c ∷ cs) s =
      let x = none_among cs (after door s c) in
      let e : cond {A = ℕ} (turns door s c && among 0 c) 1 0 ≡ 0 = grind (arith, nat_tests) in
      omega (arith, e)

  one_more : (k : ℕ) (cs : List Call) (s : State At) → turns_among (suc k) s cs ≤ turns_among k s cs + turns_by door (suc k) s cs
  one_more k [] s = omega arith
  one_more k (c ∷ cs) s =
      let x = one_more k cs (after door s c) in
      let y : cond (turns door s c && among (suc k) c) 1 0 ≤ cond (turns door s c && among k c) 1 0 + cond (turns door s c && step_of (suc k) c) 1 0 = grind (arith, nat_tests) in
      omega arith

  -- only steps of the gate's arms turn the bit
  own_among : (s : State At) (c : Call) → turns door s c ≡ (turns door s c && among s.n c)
  own_among s (Step i) = unless_both (refusal_of door s (Step i)) (stepped door i s) s
      (λ t. let turn = not (eqb (get_or t.regs group 0) (get_or s.regs group 0)) in turn ≡ (turn && among s.n (Step i)))
      (λ none. let r = known_arm s i (step_refusal (phase_at door s i)) none in grind (arith, nat_tests))
      (grind (arith, nat_tests))
  own_among s c = grind (arith, nat_tests)

  all_among : (n : ℕ) (cs : List Call) (s : State At) → s.n ≡ n → turns_in door s cs ≡ turns_among n s cs
  all_among n [] s e = refl
  all_among n (c ∷ cs) s e =
      let x = all_among n cs (after door s c) (after_n door s c ∙ e) in
      let y : cond {A = ℕ} (turns door s c) 1 0 ≡ cond (turns door s c && among n c) 1 0 = ap (λ t. cond t 1 0) (own_among s c ∙ ap (λ k. turns door s c && among k c) e) in
      omega (arith, y)

-- from a making on
module _ {At : Type 0} {door : Table At} (phased : Phased door) (rules : ShowsRules door) (bits : ShowsBits door) (making : Making) (past : List Call) where
  abbrev start : State At
  start = made door making

  abbrev now : State At
  now = run door start past

  once : (b : ℕ) → 1 ≤ b → b ≤ start.n → turns_by door b start past ≤ (arm_at door now b).visits
  once b lo hi =
      let x = run_paid door phased rules bits b lo past start hi (origin_made door making start refl) in
      let y = ap owes (start_rests door phased making b) in
      omega arith

  few : (k : ℕ) → k ≤ start.n → turns_among door k start past ≤ k * visit_limit
  few zero h = let x = none_among door past start in omega arith
  few (suc k) h =
      let x = few k (omega arith) in
      let y = one_more door k past start in
      let z = once (suc k) (omega arith) h in
      let most = ((bounded door making past).each (suc k - 1)).begun in
      omega arith

  pub told : TurnsTold door start past now
  told = record {
    count = let x = run_turns door past start in omega arith;
    once = λ b h. let x = arm_in now b h in once b x.0 (let y = x.1 in let z = run_n door past start in omega arith);
    few = let n = run_n door past start in let x = run_turns door past start in let y = all_among door start.n past start refl in let z = few start.n (omega arith) in rw n (omega arith);
  }

module _ {At : Type 0} (door : Table At) (phased : Phased door) (rules : ShowsRules door) (bits : ShowsBits door) where
  pub turns_told : Always door (TurnsTold door)
  turns_told = told phased rules bits

  pub turns_law : (s : State At) → TurnsLaw door s
  turns_law s making past e = subst (TurnsTold door (made door making) past) e (turns_told making past)

  -- a gate that calls lead to has room for one turn more
  pub turns_few : (s : State At) → IsReached door s → s.turns ≤ arm_limit * visit_limit
  turns_few s = at_most door s.turns (arm_limit * visit_limit) (λ p.
      let x = (turns_law s p.making p.calls p.leads).few in
      let few = (bounded_at door s p).few in
      omega (arith, x, few))

  -- only a step of an arm that leaves turns the bit
  unturned_from : (s : State At) (i : ℕ) → Origin door s → refusal_of door s (Step i) ≡ None → T (not (is_in door P.X s i)) → turns_bit s.high s.regs (access_at door s i) ≡ false
  unturned_from s i p none other =
      let c = Step i in
      let t = after door s c in
      let known = known_arm s i (step_refusal (phase_at door s i)) none in
      let keeps : Keeps (meaning_of door s) (meaning_of door t) i = keeps_of _ _ _ (change_at door rules s p c) in
      let bit = keeps.only_exit_turns.1 (λ side first. clash (is_in door P.X s i) (subst T (phase_meant door s P.X i known.0 known.1) (subst (λ a. T (at P.X a)) (sym first.0) tt)) other) in
      let are_bits = at_origin door (AreBits door) bits in
      let e = still door s c (let x = known.0 in let y = known.1 in omega arith) (are_bits s p) (are_bits t (origin_after door s c t refl p)) bit in
      let same : turns door s c ≡ not (eqb (get_or (stepped door i s).regs group 0) (get_or s.regs group 0)) = ap (λ r. not (eqb (get_or (unless r (stepped door i s) s).regs group 0) (get_or s.regs group 0))) none in
      turned_so s.high s.regs (access_at door s i) ∙ sym same ∙ e

  pub unturned : (s : State At) (i : ℕ) → IsReached door s → refusal_of door s (Step i) ≡ None → T (not (is_in door P.X s i)) → turns_bit s.high s.regs (access_at door s i) ≡ false
  unturned s i reached none other =
      let turn = turns_bit s.high s.regs (access_at door s i) in
      is_false turn (true_at door (not turn) (λ p. none_of turn (λ t. subst T (unturned_from s i p none other) t)) reached)

  -- so of a step from phase p it is enough to count the turn of one that leaves
  pub exit_turns : (s : State At) (i : ℕ) → IsReached door s → refusal_of door s (Step i) ≡ None → (p : Phase) → p ≡ phase_at door s i
      → cond {A = ℕ} (same_phase p P.X && turns_bit s.high s.regs (access_at door s i)) 1 0 ≡ cond (turns_bit s.high s.regs (access_at door s i)) 1 0
  exit_turns s i reached none p e =
      ⊎_elim
      (λ t. let x = is_true (same_phase p P.X) t in grind arith)
      (λ d. let x = unturned s i reached none (subst (λ q. T (not (same_phase q P.X))) e d) in grind arith)
      (test (same_phase p P.X))
