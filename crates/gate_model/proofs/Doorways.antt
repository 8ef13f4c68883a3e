-- Each doorway reads the bit exactly once, and the side is that bit, over every history of a gate whose door shows the rules and its doorway's accesses.
use Rattle.std.proofs.Common.{◌≡◌, ℕ, ◌+◌, ◌≤◌, Bool, false, cond, not, ◌&&◌, ◌||◌, T, eqb, ◌⊎◌, List, [], ◌∷◌, get_or, Some, None, Option, sym, refl, ap, ◌∙◌, subst, arith}
use Rattle.std.proofs.lemmas.Bool.Decides.{nat_tests}
use lib.Dec.{eqb_refl}
use Rattle.gate_model.specs.Making.{Making}
use Rattle.gate_model.specs.Phases.{same_phase}
use Rattle.gate_model.specs.Registers.{group, value_read}
use Rattle.gate_model.specs.Table.{Table}
use Rattle.gate_model.specs.Arms.{side_after}
use Rattle.gate_model.specs.States.{State, made, is_arm, arm_at, phase_at}
use Rattle.gate_model.specs.Calls.{refusal_of, access_at, arm_after, after, run}
use Rattle.gate_model.specs.History.{accepted, no_refusal, is_in, past_doorway, begin_of, step_of, of_group, reads_for, reads_on, latest_bit, reads_in_visit, bit_read}
use Rattle.gate_model.specs.Law.{ReadOnce, Reading, Origin}
use Rattle.gate_model.specs.Meaning.{Stage, resting, at, stage_of, door_stage, meaning_of, arm_of}
use Rattle.gate_model.specs.Doorways.{gets_side, ReadsAsTold, ShowsReads}
use Rattle.gate_model.specs.Rules.{Phased, ShowsRules}
use Rattle.gate_model.specs.declared.access.Access.{Access}
use Rattle.gate_model.specs.declared.arm.Arm.{Arm}
use Rattle.gate_model.specs.declared.call.Call.{Call}
use Rattle.gate_model.specs.declared.call.Call.TheVariants.{Begin, Step, Leave}
use Rattle.gate_model.specs.declared.phase.Phase.{Phase}
use Rattle.gate_model.specs.declared.phase.Phase.TheVariants as P
use Rattle.gate_model.proofs.Accepted.{arm_in, arm_is}
use Rattle.gate_model.proofs.Always.{at_origin}
use Rattle.gate_model.proofs.Bools.{is_true, and_T}
use Rattle.gate_model.proofs.Bounds.{all_there}
use Rattle.gate_model.proofs.Changes.{Goes}
use Rattle.gate_model.proofs.Effects.{begins, admits, leaves}
use Rattle.gate_model.proofs.Meant.{phase_path, phase_meant, change_at, start_fresh}
use Rattle.gate_model.proofs.Origins.{origin_made, origin_after}
use Rattle.gate_model.proofs.Records.{Became, stays, visited, moved_on, became_by}
use Rattle.gate_model.proofs.Unaltered.{after_n, run_n}
use Rattle.gate_model.proofs.SameButRow.{SameButRow}

-- an arm in phase p with side o, k reads since its latest begin, and v the bit that it read
pub record Told (p : Phase) (o : Option ℕ) (k v : ℕ) : Type 0 where
  pub count : T (not (same_phase p P.I)) → k ≡ reads_for o
  pub side : T (not (same_phase p P.I)) → (x : ℕ) → o ≡ Some x → x ≡ v
  pub past : T (not (same_phase p P.I)) → T (not (same_phase p P.D)) → reads_for o ≡ 1

past_awake : (p : Phase) → T (same_phase p P.W || (same_phase p P.F || same_phase p P.X)) → T (not (same_phase p P.I)) × T (not (same_phase p P.D))
past_awake p h = grind arith

and_same : (a b c : Bool) → (T a → b ≡ c) → (a && b) ≡ (a && c)
and_same a b c h = grind arith

-- what an access of the group reads
group_read : (regs : List ℕ) (a : Access) → T (of_group a) → value_read regs a ≡ get_or regs group 0
group_read regs a h = grind (arith, nat_tests)

-- a side is missing where the arm is about to get one
no_side : (o : Option ℕ) (a' : Stage) → T (gets_side (door_stage o) a') → o ≡ None
no_side o a' h = grind arith

-- a step from phase p to q that reads the bit (g) or not: x is the value that it read, y the group's
step_told : (p q : Phase) (g : Bool) (x y : ℕ) (o : Option ℕ) (k v : ℕ) → T (not (same_phase p P.I) && not (same_phase p P.F))
    → (T (same_phase p P.D) → T g → (o ≡ None) × (x ≡ y)) → (T (same_phase p P.D) → T (same_phase q P.I) ⊎ (T (same_phase q P.D) ⊎ (reads_for o ≡ 1)))
    → Told p o k v → Told q (side_after g x p q o) (cond (same_phase p P.D && g) (k + 1) k) (cond (same_phase p P.D && g) y v)
step_told p q g x y o k v moves new old h = record {
  count = λ i. let a = h.count in let b = new in grind arith;
  side = λ i z e. let a = h.side in let b = new in grind arith;
  past = λ i d. let a = h.past in let b = old in grind arith;
}

-- the same phase and side
same_told : (p p' : Phase) (o o' : Option ℕ) (k v : ℕ) → p' ≡ p → o' ≡ o → Told p o k v → Told p' o' k v
same_told p p' o o' k v e f h = rw (e, f) h

-- what the rules say of a visit that begins, of a doorway that ends, and of an arm that leaves
begun : (bit : Bool) (arms : ℕ → Stage) (a a' : Stage) (bit' : Bool) (o : Option ℕ) → Goes bit arms a a' bit' → T (at P.I a) → a' ≡ door_stage o → o ≡ None
begun bit arms a a' bit' o goes i e = grind arith

ended : (bit : Bool) (arms : ℕ → Stage) (a a' : Stage) (bit' : Bool) (o : Option ℕ) → Goes bit arms a a' bit' → a ≡ door_stage o → T (at P.I a') ⊎ (T (at P.D a') ⊎ (reads_for o ≡ 1))
ended bit arms a a' bit' o goes e = grind arith

left : (bit : Bool) (arms : ℕ → Stage) (a a' : Stage) (bit' : Bool) → Goes bit arms a a' bit' → T (at P.X a') → T (not (at P.I a)) × T (not (at P.D a))
left bit arms a a' bit' goes x = grind arith

module _ {At : Type 0} (door : Table At) (phased : Phased door) where
  abbrev ToldOf : Arm At → ℕ → ℕ → Type 0
  ToldOf r k v = Told (door.phase r.position) r.side k v

  -- what is told of w before a call, and what the door shows
  module _ (rules : ShowsRules door) (reads : ShowsReads door) (w : ℕ) (lo : 1 ≤ w) (s : State At) (hi : w ≤ s.n) (origin : Origin door s) (k v : ℕ) (h : ToldOf (arm_at door s w) k v) where
    abbrev reads_now : Bool
    reads_now = is_in door P.D s w && of_group (access_at door s w)

    -- a is its record after a call that begins a visit of w (b) or is a step of it (st)
    abbrev Next : Arm At → Bool → Bool → Type 0
    Next a b st = ToldOf a (cond b 0 (cond (st && reads_now) (k + 1) k)) (cond (st && reads_now) (get_or s.regs group 0) v)

    -- its meaning in the doorway
    in_doorway : (t : State At) → t.n ≡ s.n → phase_at door t w ≡ P.D → (meaning_of door t).arms w ≡ door_stage (arm_at door t w).side
    in_doorway t n e =
        ap (λ b. cond b (stage_of (phase_at door t w) (door.turned (arm_at door t w).position) (arm_at door t w).side) resting) (is_true (is_arm t w) (arm_is t w lo (omega arith)))
        ∙ ap (λ p. stage_of p (door.turned (arm_at door t w).position) (arm_at door t w).side) e

    -- its phase after a call, in the meaning
    meant_after : (c : Call) (p : Phase) → at p ((meaning_of door (after door s c)).arms w) ≡ is_in door p (after door s c) w
    meant_after c p = phase_meant door (after door s c) p w lo (let z = after_n door s c in omega arith)

    -- what a call of w does to its meaning
    own_goes : (c : Call) → arm_of c ≡ w → Goes (meaning_of door s).bit (meaning_of door s).arms ((meaning_of door s).arms w) ((meaning_of door (after door s c)).arms w) (meaning_of door (after door s c)).bit
    own_goes c e =
        subst (λ i. Goes (meaning_of door s).bit (meaning_of door s).arms ((meaning_of door s).arms i) ((meaning_of door (after door s c)).arms i) (meaning_of door (after door s c)).bit) e
        (change_at door rules s origin c).goes

    own_begin : (a : Arm At) → T (is_in door P.I s w) → arm_at door (after door s (Begin w)) w ≡ a → door.phase a.position ≡ P.D → ToldOf a 0 v
    own_begin a idle e enters =
        let t = after door s (Begin w) in
        let missing : a.side ≡ None = sym (ap (λ r. r.side) e) ∙ begun _ _ _ _ _ (arm_at door t w).side (own_goes (Begin w) refl) (subst T (sym (phase_meant door s P.I w lo hi)) idle)
        (in_doorway t (after_n door s (Begin w)) (ap (λ r. door.phase r.position) e ∙ enters)) in
        record {
          count = λ i. rw missing refl;
          side = λ i x e. absurd (let y = sym missing ∙ e in grind arith);
          past = λ i d. absurd (subst (λ p. T (not (same_phase p P.D))) enters d);
        }

    own_leave : (g : ℕ) (a : Arm At) → arm_at door (after door s (Leave g w)) w ≡ a → door.phase a.position ≡ P.X → a.side ≡ (arm_at door s w).side → ToldOf a k v
    own_leave g a e exits side =
        let x = left _ _ _ _ _ (own_goes (Leave g w) refl) (subst T (sym (meant_after (Leave g w) P.X)) (subst (λ p. T (same_phase p P.X)) (sym (ap (λ r. door.phase r.position) e ∙ exits)) tt)) in
        let awake = subst (λ b. T (not b)) (phase_meant door s P.I w lo hi) x.0 in
        let past = subst (λ b. T (not b)) (phase_meant door s P.D w lo hi) x.1 in
        rw side (record { count = λ _. h.count awake; side = λ _. h.side awake; past = λ _ _. h.past awake past })

    own_step : (a : Arm At) → refusal_of door s (Step w) ≡ None → T (not (is_in door P.I s w) && not (is_in door P.F s w)) → SameButRow a (arm_after door s w) → arm_at door (after door s (Step w)) w ≡ a → Next a false (eqb w w)
    own_step a none moves seen e =
        let m' = meaning_of door (after door s (Step w)) in
        let p = phase_at door s w in
        let q = door.phase (arm_after door s w).position in
        let o = (arm_at door s w).side in
        let access = access_at door s w in
        let g = door.reads_bit (arm_at door s w).position in
        let here : T (is_in door P.D s w) → ReadsAsTold door s w =
        at_origin door (λ t. (i : ℕ) → T (accepted door t (Step i)) → T (is_in door P.D t i) → ReadsAsTold door t i) reads s origin w (subst (λ x. T (no_refusal x)) (sym none) tt) in
        let flag : (eqb w w && reads_now) ≡ (same_phase p P.D && g) = ap (λ b. b && reads_now) (is_true (eqb w w) (eqb_refl w)) ∙ and_same (is_in door P.D s w) (of_group access) g (λ d. (here d).as_marked) in
        let doorway : T (same_phase p P.D) → (meaning_of door s).arms w ≡ door_stage o = λ d. in_doorway s refl (phase_path p P.D d) in
        let new : T (same_phase p P.D) → T g → (o ≡ None) × (value_read s.regs access ≡ get_or s.regs group 0) = λ d y.
        let read : T (of_group access) = subst T (sym (here d).as_marked) y in (
          no_side o (m'.arms w) (subst (λ x. T (gets_side x (m'.arms w))) (doorway d) (subst T (here d).gives_side read)),
          group_read s.regs access read,
        ) in
        let phase : phase_at door (after door s (Step w)) w ≡ q = ap (λ r. door.phase r.position) e ∙ ap door.phase seen.0 in
        let old : T (same_phase p P.D) → T (same_phase q P.I) ⊎ (T (same_phase q P.D) ⊎ (reads_for o ≡ 1)) = λ d.
        subst (λ z. T (same_phase z P.I) ⊎ (T (same_phase z P.D) ⊎ (reads_for o ≡ 1))) phase
        (rw (sym (meant_after (Step w) P.I), sym (meant_after (Step w) P.D)) (ended _ _ _ _ _ o (own_goes (Step w) refl) (doorway d))) in
        rw flag (same_told q (door.phase a.position) (arm_after door s w).side a.side _ _ (ap door.phase seen.0) seen.1 (step_told p q g (value_read s.regs access) (get_or s.regs group 0) o k v moves new old h))

    next : (c : Call) (ok : Bool) (a : Arm At) → Became door s w c ok a → arm_at door (after door s c) w ≡ a → Next a (ok && begin_of w c) (ok && step_of w c)
    next c ok a (stays none seen) e =
        let begins : (ok && begin_of w c) ≡ false = grind arith in
        let steps : (ok && step_of w c) ≡ false = grind arith in
        rw (begins, steps) (same_told _ _ _ _ k v (ap door.phase seen.0) seen.1 h)
    next c ok a (visited (begins idle _)) e = rw (is_true (eqb w w) (eqb_refl w)) (own_begin _ idle e phased.entry)
    next c ok a (visited (admits _)) e = h
    next c ok a (visited (leaves {g = g} _ _)) e = own_leave g _ e phased.exit refl
    next c ok a (moved_on none moves seen) e = own_step a none moves seen e

  -- a list of calls
  told_run : ShowsRules door → ShowsReads door → (w : ℕ) → 1 ≤ w → (cs : List Call) (s : State At) → w ≤ s.n → Origin door s → (k v : ℕ) → ToldOf (arm_at door s w) k v
      → ToldOf (arm_at door (run door s cs) w) (reads_on door w s cs k) (latest_bit door w s cs v)
  told_run rules reads w lo [] s hi origin k v h = h
  told_run rules reads w lo (c ∷ cs) s hi origin k v h =
      told_run rules reads w lo cs (after door s c) (let n = after_n door s c in omega arith) (origin_after door s c _ refl origin) _ _
      (next rules reads w lo s hi origin k v h c _ _ (became_by door s (all_there door s origin) w lo c) refl)

-- of any door that shows the rules, and what its doorway accesses
module _ {At : Type 0} (door : Table At) (phased : Phased door) (rules : ShowsRules door) (reads : ShowsReads door) (making : Making) (past : List Call) where
  abbrev start : State At
  start = made door making

  abbrev now : State At
  now = run door start past

  told : (w : ℕ) → T (is_arm now w) → ToldOf door phased (arm_at door now w) (reads_in_visit door w start past) (bit_read door w start past)
  told w h =
      let x = arm_in now w h in
      let size = run_n door past start in
      let rest = start_fresh door phased making w in
      let asleep : T (not (is_in door P.I start w)) → ⊥ = λ i. subst (λ p. T (not (same_phase p P.I))) rest i in
      told_run door phased rules reads w x.0 past start (let y = x.1 in omega arith) (origin_made door making _ refl) 0 0
      (record { count = λ i. absurd (asleep i); side = λ i. absurd (asleep i); past = λ i. absurd (asleep i) })

  read_once : ReadOnce door start past now
  read_once w h =
      let y = and_T (is_arm now w) (past_doorway door now w) h in
      let t = told w y.0 in
      let awake = past_awake (phase_at door now w) y.1 in
      t.count awake.0 ∙ t.past awake.0 awake.1

  pub reading : Reading door start past now
  reading = record {
    read_once = read_once;
    read_if_sided = λ w h i. (told w h).count i;
    side_read = λ w v h i. (told w h).side i v;
  }
