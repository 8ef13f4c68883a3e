-- Every waiting arm goes inside: in each round its potential falls, or the bound of what the arms with the other side still have to do.
use Rattle.std.proofs.Common.{ℕ, zero, suc, ◌+◌, ◌≤◌, Bool, not, T, eqb, ◌≢◌, ◌⊎◌, List, [], ◌∷◌, ◌++◌, sym, subst, inl, inr, ⊎_elim, arith, eqb→eq}
use Rattle.gate_model.specs.States.{State}
use Rattle.gate_model.specs.Calls.{after, run}
use Rattle.gate_model.specs.History.{goes_inside, moves, GoesInside, Moves, Round, Rounds}
use Rattle.gate_model.specs.declared.call.Call.{Call}
use Rattle.gate_model.specs.declared.phase.Phase.TheVariants as P
use Rattle.gate_model.specs.Table.{Table}
use Rattle.gate_model.proofs.Bools.{and_T}
use Rattle.gate_model.proofs.Accepted.{arm_is}
use Rattle.gate_model.proofs.Sooner.{goes_left}
use Rattle.machine.specs.Kinds.{soon}
use Rattle.machine.proofs.Machine.{is_begin, Machine}
use Rattle.machine.proofs.Waiting.{Waiting}
use Rattle.machine.proofs.Potential.{potential, most}
use Rattle.machine.proofs.Falls.{potential_bound, potential_some}
use Rattle.machine.proofs.Owed.{Below, Due, below_moved, move_waits, due_moves, due_exists, due_ends, due_same, below_first}
use Rattle.simulation.proofs.Simulates.{Simulates}
use Rattle.simulation.proofs.EveryCall.{CallSimulated, stays, goes, came, phase_shown, entry_goes, Sound, same_sound, moved_sound}
use Rattle.simulation.proofs.Plans.{Plan}

module _ {At : Type 0} {door : Table At} (plan : Plan door) where
  module _ (w : ℕ) (sd : Bool) (n : ℕ) (wlo : 1 ≤ w) (whi : w ≤ n) where
    -- the sum of the potential and of the bound M is B at most, or one more while a round, in which due moves are to come, owes a fall
    abbrev Low : Machine → ℕ → ℕ → (ℕ → Type 0) → Type 0
    Low g M B due = (potential sd g w + M ≤ B) ⊎ ((potential sd g w + M ≤ B + 1) × Due g w sd M due)

    -- w waits with side sd
    record Holds (s : State At) (B : ℕ) (due : ℕ → Type 0) : Type 0 where
      pub sound : Sound plan s n
      pub wait : Waiting sd (sound.machine.arms w)
      pub bound : ℕ
      pub below : Below sound.machine sd bound
      pub low : Low sound.machine bound B due

    call_holds : (s : State At) (B : ℕ) (c : Call) (due : ℕ → Type 0) → Holds s B (λ b. T (moves door b s c) ⊎ due b) → T (goes_inside door w s c) ⊎ Holds (after door s c) B due
    call_holds s B c due h = go (came s h.sound.machine h.sound.simulates h.sound.keeps c)
      where
        before : ℕ → Type 0
        before b = T (moves door b s c) ⊎ due b

        still : (b : ℕ) → (T (moves door b s c) → ⊥) → before b → due b
        still b none y = ⊎_elim (λ x. absurd (none x)) (λ x. x) y

        go : CallSimulated plan h.sound.machine s c → T (goes_inside door w s c) ⊎ Holds (after door s c) B due
        go (stays mir none _) = inr (record {
          sound = same_sound s (after door s c) n h.sound mir;
          wait = h.wait;
          bound = h.bound;
          below = h.below;
          low = ⊎_elim (λ l. inl l) (λ x. inr (x.0, due_same before due (λ b. still b (subst T (none b))) h.sound.machine w sd h.bound x.1)) h.low;
        })
        go (goes m i lo hi k mir mine st _) =
            let g : Machine = h.sound.machine in
            let v = h.wait in
            let e = h.sound.arms_are in
            let others : (b : ℕ) → b ≢ i → before b → due b = λ b ne. still b (λ t. ne (sym (eqb→eq i b (and_T (not (is_begin m)) (eqb i b) (subst T (mine b) t)).1))) in
            ⊎_elim (λ x. inl (entry_goes w sd s g wlo (omega arith) h.sound.simulates v c m i mir st x))
            (λ x. inr (record {
              sound = moved_sound s (after door s c) n h.sound m i lo hi mir;
              wait = x.0;
              bound = h.bound;
              below = below_moved g h.sound.keeps w sd v.0 v.1 v.2 m i h.bound h.below;
              low = ⊎_elim (λ l. inl (let y = x.1 in omega arith))
                  (λ l. ⊎_elim (λ f. inl (let z = l.0 in omega arith)) (λ d. inr ((let y = x.1 in let z = l.0 in omega arith), d)) (due_moves g h.sound.keeps w sd v.0 v.1 v.2 m i k h.bound h.below before due others l.1)) h.low;
            }))
            (move_waits g h.sound.keeps w sd v.0 v.1 v.2 m i k)

    calls_hold : (cs : List Call) (s : State At) (B : ℕ) → Holds s B (λ b. Moves door b s cs) → GoesInside door w s cs ⊎ Holds (run door s cs) B (λ b. ⊥)
    calls_hold [] s B h = inr h
    calls_hold (c ∷ cs) s B h = ⊎_elim (λ x. inl (inl x)) (λ h'. ⊎_elim (λ y. inl (inr y)) (λ y. inr y) (calls_hold cs (after door s c) B h')) (call_holds s B c (λ b. Moves door b (after door s c) cs) h)

    -- at the end of a round the sum is B at most, so the next one owes something
    ended : (s : State At) (B : ℕ) (h : Holds s B (λ b. ⊥)) → (M : ℕ) × Below h.sound.machine sd M × (potential sd h.sound.machine w + M ≤ B)
    ended s B h = ⊎_elim (λ l. (h.bound, h.below, l)) (λ x. let y = due_ends h.sound.machine w sd h.bound x.1 in (y.0, y.2, (let l = y.1 in let z = x.0 in omega arith))) h.low

    round_falls : (s : State At) (B : ℕ) (r : List Call) → Holds s (suc B) (λ b. ⊥) → Round door s r → GoesInside door w s r ⊎ Holds (run door s r) B (λ b. ⊥)
    round_falls s B r h round =
        let g : Machine = h.sound.machine in
        let mir : Simulates plan s g = h.sound.simulates in
        let v = h.wait in
        let x = ended s (suc B) h in
        let due = due_exists g h.sound.keeps w sd v.0 v.1 v.2 x.0 x.1 (λ b. Moves door b s r)
        (λ b blo bhi awake. round b (arm_is s b blo (let z = mir.size in omega arith)) (subst (λ y. T (not y)) (sym (phase_shown s g mir P.I b blo bhi)) awake)) in
        calls_hold r s B (record { sound = h.sound; wait = v; bound = x.0; below = x.1; low = inr ((let l = x.2 in omega arith), due) })

    goes_right : (r rest : List Call) (s : State At) → GoesInside door w (run door s r) rest → GoesInside door w s (r ++ rest)
    goes_right [] rest s h = h
    goes_right (c ∷ r) rest s h = inr (goes_right r rest (after door s c) h)

    rounds_end : (k : ℕ) (s : State At) (cs : List Call) → Holds s k (λ b. ⊥) → Rounds door k s cs → GoesInside door w s cs
    rounds_end zero s cs h rs =
        let v = h.wait in
        let x = (ended s 0 h).2 in
        let y = potential_some h.sound.machine h.sound.keeps w sd v.0 v.1 v.2 in
        absurd (omega arith)
    rounds_end (suc k) s cs h (r, rest, q, round, rs) = subst (λ y. GoesInside door w s y) (sym q)
        (⊎_elim (goes_left door w r rest s) (λ h'. goes_right r rest s (rounds_end k (run door s r) rest h' rs)) (round_falls s k r h round))

    -- so many rounds are enough, or more
    pub all_go_inside : (s : State At) → (sound : Sound plan s n) → Waiting sd (sound.machine.arms w) → (k : ℕ) → soon plan.kind n ≤ k → (further : List Call) → Rounds door k s further → GoesInside door w s further
    all_go_inside s sound v k many further rs =
        let g : Machine = sound.machine in
        let low = potential_bound g sound.keeps w sd v.0 v.1 v.2 in
        let enough : soon g.kind g.n ≤ k = subst (λ x. soon x g.n ≤ k) (sym sound.simulates.kind) (subst (λ x. soon plan.kind x ≤ k) (sym sound.arms_are) many) in
        rounds_end k s further (record { sound = sound; wait = v; bound = most g.kind; below = below_first g sd; low = inl (omega arith) }) rs
