-- Every call is a move of the machine or leaves the machine as it is; so every history of a gate simulates a run of the machine.
use Rattle.std.proofs.Common.{◌≡◌, ℕ, ◌-◌, ◌<◌, ◌≤◌, Bool, true, false, not, ◌&&◌, T, eqb, List, length, get_or, map, drop, None, sym, refl, ap, ◌∙◌, subst, arith}
use Rattle.std.proofs.lemmas.Bool.Decides.{nat_tests}
use Rattle.std.proofs.lemmas.Bool.{cond-false, ne_eqb}
use Rattle.std.proofs.lemmas.List.{get_or-replicate, get_or_append_left, length-replicate}
use Rattle.std.proofs.lemmas.List.FromFn.{get_or-map-range_with_len, length-map-range_with_len}
use Rattle.std.specs.List.{range_with_len}
use Rattle.gate_model.specs.Limits.{arm_limit}
use Rattle.gate_model.specs.Registers.{group}
use Rattle.gate_model.specs.Phases.{same_phase}
use Rattle.gate_model.specs.Table.{Table}
use Rattle.gate_model.specs.Arms.{fresh, no_arm}
use Rattle.gate_model.specs.States.{State, made, is_arm, arm_at, phase_at, with_arm}
use Rattle.gate_model.specs.declared.arm.Arm.{Arm}
use Rattle.gate_model.specs.Making.{Making, cleared, made_regs}
use Rattle.gate_model.specs.Rules.{Always}
use Rattle.gate_model.specs.Calls.{step_refusal, refusal_of, arm_after, stepped, after, run}
use Rattle.gate_model.specs.History.{accepted, moves, steps as are_steps, step_of, move_of, is_in, goes_inside}
use Rattle.gate_model.specs.Meaning.{arm_of}
use Rattle.gate_model.specs.declared.call.Call.{Call}
use Rattle.gate_model.specs.declared.call.Call.TheVariants.{Step}
use Rattle.gate_model.specs.declared.phase.Phase.{Phase}
use Rattle.gate_model.specs.declared.phase.Phase.TheVariants as P
use Rattle.gate_model.proofs.Accepted.{for_arm_none, step_none, known_arm, none_refused}
use Rattle.gate_model.proofs.Always.{run_holds}
use Rattle.gate_model.proofs.Effects.{Known, Visits, begins, admits, leaves, Does, nothing, visits, steps, does, no_move, no_step}
use Rattle.gate_model.proofs.Unaltered.{run_n}
use Rattle.gate_model.proofs.Rooms.{arms_few, arms_fit, length_cleared}
use Rattle.machine.proofs.Machine.{Stance, idle, at, out, visit, Move, begin, step, admit, leave, is_step, is_begin, allowed, may_step, Machine, moved}
use Rattle.machine.proofs.Invariant.{Inv, inv_moved}
use Rattle.machine.proofs.Waiting.{Waiting, Entry}
use Rattle.simulation.proofs.Layouts.{cell}
use Rattle.simulation.proofs.Plans.{Plan}
use Rattle.simulation.proofs.Simulates.{register, Simulates, phase_is, tallied_simulates, step_simulates, visit_simulates}

-- the marks after a begin, an admit and a leave
marks : (a : Stance) → (out a ≡ out (visit begin a)) × (T (at P.F a && not (out a)) → true ≡ out (visit admit a)) × (false ≡ out (visit leave a))
marks a = (grind arith, (λ k. grind arith), grind arith)

-- what a call of arm o comes to, t being the state after it, and mv and st telling whose accepted move and whose accepted step it is
pub data Came {At : Type 0} {door : Table At} (plan : Plan door) (g : Machine) (t : State At) (o : ℕ) (mv st : ℕ → Bool) : Type 0 where
  stays : Simulates plan t g → ((b : ℕ) → mv b ≡ false) → ((b : ℕ) → st b ≡ false) → Came plan g t o mv st
  goes : (m : Move) (i : ℕ) → 1 ≤ i → i ≤ g.n → T (allowed m (g.arms i)) → Simulates plan t (moved g m i)
      → ((b : ℕ) → mv b ≡ (not (is_begin m) && eqb i b)) → ((b : ℕ) → st b ≡ (is_step m && eqb i b)) → i ≡ o → Came plan g t o mv st

abbrev pub CallSimulated : {At : Type 0} {door : Table At} → Plan door → Machine → State At → Call → Type 0
CallSimulated {door = door} plan g s c = Came plan g (after door s c) (arm_of c) (λ b. moves door b s c) (λ b. are_steps door b s c)

-- a state that simulates a machine of n arms with its invariant
pub record Sound {At : Type 0} {door : Table At} (plan : Plan door) (s : State At) (n : ℕ) : Type 0 where
  pub machine : Machine
  pub simulates : Simulates plan s machine
  pub keeps : Inv machine
  pub arms_are : machine.n ≡ n

module _ {At : Type 0} {door : Table At} {plan : Plan door} where
  module _ (s : State At) (g : Machine) (mir : Simulates plan s g) (inv : Inv g) where
    -- an accepted step is a step of the machine
    pub record StepMoves (i : ℕ) : Type 0 where
      pub lo : 1 ≤ i
      pub hi : i ≤ s.n
      pub may : T (may_step (g.arms i))
      pub still_simulates : Simulates plan (stepped door i s) (moved g step i)

    pub step_moves : (i : ℕ) → refusal_of door s (Step i) ≡ None → StepMoves i
    step_moves i e =
        let r = known_arm s i (step_refusal (phase_at door s i)) e in
        let k : T (may_step (g.arms i)) = subst (λ p. T (not (same_phase p P.I) && not (same_phase p P.F))) (phase_is s g mir i r.0 r.1) (step_none (phase_at door s i) (for_arm_none (is_arm s i) _ e)) in
        record {
          lo = r.0;
          hi = r.1;
          may = k;
          still_simulates = tallied_simulates s _ _ (i - 1) (phase_at door s i) (door.phase (arm_after door s i).position) _ _ (moved g step i) (step_simulates s g mir i r.0 r.1 (inv.own i) k);
        }

    visit_came : (c : Call) (i : ℕ) (r : Arm At) → Known door s i → Visits door s c i r → Came plan g (with_arm i r s) (arm_of c) (λ b. move_of b c) (λ b. step_of b c)
    visit_came c i r known (begins rested _) =
        let k : T (at P.I (g.arms i)) = subst (λ p. T (same_phase p P.I)) (phase_is s g mir i known.0 known.1) rested in
        goes begin i known.0 (let z = mir.size in let y = known.1 in omega arith) k
        (visit_simulates s g mir i known.0 known.1 begin door.entry _ _ tt (plan.at_entry (g.arms i) k) ((mir.shows i known.0 known.1).marked ∙ (marks (g.arms i)).0)) (λ b. refl) (λ b. refl) refl
    visit_came c i r known (admits unmarked) =
        let x = mir.shows i known.0 known.1 in
        let k : T (at P.F (g.arms i) && not (out (g.arms i))) = subst (λ o. T (at P.F (g.arms i) && not o)) x.marked
        (subst (λ p. T (same_phase p P.F && not (arm_at door s i).out)) (phase_is s g mir i known.0 known.1) unmarked) in
        goes admit i known.0 (let z = mir.size in let y = known.1 in omega arith) k
        (visit_simulates s g mir i known.0 known.1 admit _ _ true tt (x.stands ∙ plan.at_pass (g.arms i)) ((marks (g.arms i)).1 k)) (λ b. refl) (λ b. refl) refl
    visit_came c i r known (leaves _ marked) =
        let k : T (out (g.arms i)) = subst T (mir.shows i known.0 known.1).marked marked in
        goes leave i known.0 (let z = mir.size in let y = known.1 in omega arith) k
        (visit_simulates s g mir i known.0 known.1 leave door.exit _ false tt (plan.at_exit (g.arms i) k) (marks (g.arms i)).2) (λ b. refl) (λ b. refl) refl

    came_by : (c : Call) (ok : Bool) (t : State At) → Does door s c ok t → Came plan g t (arm_of c) (λ b. ok && move_of b c) (λ b. ok && step_of b c)
    came_by c ok t (nothing idles) = stays mir (no_move c ok idles) (no_step c ok idles)
    came_by c ok t (visits known x) = visit_came c _ _ known x
    came_by c ok t (steps known none _) = let x = step_moves _ none in goes step _ x.lo (let z = mir.size in let y = x.hi in omega arith) x.may x.still_simulates (λ b. refl) (λ b. refl) refl

    pub came : (c : Call) → CallSimulated plan g s c
    came c = came_by c _ _ (does door s c)

  -- an arm's phase, in the state and in the machine
  pub phase_shown : (s : State At) (g : Machine) → Simulates plan s g → (p : Phase) (i : ℕ) → 1 ≤ i → i ≤ g.n → is_in door p s i ≡ at p (g.arms i)
  phase_shown s g mir p i lo hi = ap (λ z. same_phase z p) (phase_is s g mir i lo (let z = mir.size in omega arith))

  -- a move by which w goes inside is a call by which it does
  pub entry_goes : (w : ℕ) (sd : Bool) (s : State At) (g : Machine) → 1 ≤ w → w ≤ g.n → Simulates plan s g → Waiting sd (g.arms w) → (c : Call) (m : Move) (i : ℕ)
      → Simulates plan (after door s c) (moved g m i) → ((b : ℕ) → are_steps door b s c ≡ (is_step m && eqb i b)) → Entry m i w (moved g m i) → T (goes_inside door w s c)
  entry_goes w sd s g lo hi mir wait c m i mir' st (q, k, ins) =
      let before = phase_shown s g mir P.W w lo hi in
      let afterwards = phase_shown (after door s c) (moved g m i) mir' P.F w lo hi in
      let step_is = st w in
      let waiting = wait.2 in
      grind (arith, nat_tests)

  abbrev pub same_sound : (s t : State At) (n : ℕ) (h : Sound plan s n) → Simulates plan t h.machine → Sound plan t n
  same_sound s t n h mir = record { machine = h.machine; simulates = mir; keeps = h.keeps; arms_are = h.arms_are }

  abbrev pub moved_sound : (s t : State At) (n : ℕ) (h : Sound plan s n) (m : Move) (i : ℕ) → 1 ≤ i → i ≤ h.machine.n → Simulates plan t (moved h.machine m i) → Sound plan t n
  moved_sound s t n h m i lo hi mir = record { machine = moved h.machine m i; simulates = mir; keeps = inv_moved h.machine h.keeps m i lo hi; arms_are = h.arms_are }

  pub after_sound : (s : State At) (n : ℕ) → Sound plan s n → (c : Call) → Sound plan (after door s c) n
  after_sound s n h c = go (came s h.machine h.simulates h.keeps c)
    where
      go : CallSimulated plan h.machine s c → Sound plan (after door s c) n
      go (stays mir _ _) = same_sound s (after door s c) n h mir
      go (goes m i lo hi k mir _ _ _) = moved_sound s (after door s c) n h m i lo hi mir

module _ {At : Type 0} {door : Table At} (plan : Plan door) (making : Making) where
  abbrev start : State At
  start = made door making

  abbrev n : ℕ
  n = start.n

  abbrev regs : List ℕ
  regs = making.regs

  made_values : 1 ≤ n → made_regs door n regs ≡ cleared door (door.room n) regs
  made_values some = cond-false (eqb n 0) regs (cleared door (door.room n) regs) (ne_eqb n 0 (omega arith))

  first_is : 1 ≤ n → (q : ℕ) → q < door.room n → register start q ≡ door.first q
  first_is some q h =
      ap (λ rs. get_or rs q 0) (made_values some)
      ∙ (get_or_append_left (map door.first (range_with_len 0 (door.room n))) (drop (door.room n) regs) 0 q (let x = length-map-range_with_len door.first 0 (door.room n) in omega arith)
      ∙ get_or-map-range_with_len door.first 0 (door.room n) q q 0 h (omega arith))

  -- a gate just made simulates a machine whose arms are idle
  start_sound : 1 ≤ n → Sound plan start n
  start_sound some =
      let fit = arms_fit door making.high (length regs) making.wanted some in
      let few = arms_few door making.high (length regs) making.wanted in
      record {
        machine = record { kind = plan.kind; n = n; group = false; arms = λ k. idle false };
        simulates = record {
          kind = refl;
          size = refl;
          bits = fit.1;
          fits = let x = ap length (made_values some) in let y = length_cleared door (door.room n) regs fit.0 in let z = fit.0 in omega arith;
          table = let x = length-replicate arm_limit (fresh door) in omega arith;
          group_is = first_is some group (plan.some_room n) ∙ plan.first_bit;
          shows = λ i lo hi.
              let e : arm_at door start i ≡ fresh door = get_or-replicate arm_limit (i - 1) (fresh door) (no_arm door) (omega arith) in
              record {
                stands = ap (λ a. a.position) e ∙ sym (plan.at_rest false);
                sided = ap (λ a. a.side) e;
                marked = ap (λ a. a.out) e;
                told = λ c low. first_is some (cell plan.kind c i) (plan.within n c i low lo hi) ∙ plan.first_cells c i low lo;
              };
        };
        keeps = record { home = λ k. tt; awake = λ k h. absurd h; range = λ k t h. absurd h; own = λ k. tt };
        arms_are = refl;
      }

-- with arms, every history leads to a state that simulates a machine
pub sound : {At : Type 0} {door : Table At} (plan : Plan door) → Always door (λ start past s. 1 ≤ s.n → Sound plan s s.n)
sound {door = door} plan making past some =
    let start = made door making in
    let size = run_n door past start in
    subst (Sound plan (run door start past)) (sym size)
    (run_holds door (λ t. Sound plan t start.n) (λ t c h. after_sound t start.n h c) past start (start_sound plan making (omega arith)))

-- a step that is accepted then: nothing refuses it, and its state simulates a machine
pub step_sound : {At : Type 0} {door : Table At} (plan : Plan door) (making : Making) (past : List Call) (i : ℕ) → let s : State At = run door (made door making) past in T (accepted door s (Step i)) → (refusal_of door s (Step i) ≡ None) × Sound plan s s.n
step_sound {door = door} plan making past i h =
    let s = run door (made door making) past in
    let e = none_refused (refusal_of door s (Step i)) h in
    let r = known_arm s i (step_refusal (phase_at door s i)) e in
    (e, sound plan making past (let lo = r.0 in let hi = r.1 in omega arith))
