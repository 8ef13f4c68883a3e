-- How often an arm takes what it takes at most once a visit and only while inside, while another is past its doorway.
use Rattle.std.proofs.Common.{ℕ, ◌+◌, ◌≤◌, Bool, false, cond, not, ◌&&◌, ◌||◌, T, eqb, ◌⊎◌, List, [], ◌∷◌, sym, ⊎_elim, arith}
use Rattle.std.proofs.lemmas.Bool.{cases_eq}
use Rattle.std.proofs.lemmas.Bool.Decides.{nat_tests}
use Rattle.gate_model.specs.Table.{Table}
use Rattle.gate_model.specs.States.{State, made}
use Rattle.gate_model.specs.Calls.{after, run}
use Rattle.gate_model.specs.History.{past_doorway, goes_inside, latest_idle}
use Rattle.gate_model.specs.Meaning.{Stage, at, Meaning, meaning_of, arm_of}
use Rattle.gate_model.specs.Rules.{Phased, ShowsRules}
use Rattle.gate_model.specs.Takes.{called, takes, Event, calls_of, takes_on, TakesOnce, TakingBound}
use Rattle.gate_model.specs.declared.phase.Phase.TheVariants as P
use Rattle.gate_model.proofs.Changes.{Goes, Change, ends_doorway as ends, goes_inside as enters}
use Rattle.gate_model.proofs.Bools.{same_bit}
use Rattle.overtaking.proofs.Bound.{arm_range, past_range}
use Rattle.overtaking.proofs.Overtaking.{Inv, is_past, left, count, remaining, goes_at, still, idle_stays, remaining_change}
use Rattle.gate_model.proofs.Meant.{phase_meant, change_at, start_rests}
use Rattle.overtaking.proofs.Entries.{ends_shown, enters_shown, Overtaken, overtaken_call, side_then, start_overtaken}
use Rattle.gate_model.proofs.Unaltered.{after_n}

-- 1 where an arm inside may still take: it has gone inside and not taken since
abbrev room : Bool → Stage → ℕ
room may a = cond (may && at P.F a) 1 0

left_room : (e s may : Bool) (a : Stage) → (left e s a + room may a ≤ 2) × (T (at P.I a) → left e s a + room may a ≤ 1)
left_room e s may a = (grind arith, λ h. grind arith)

-- an entry (N) lowers r, how often the arm can still get past, and lets it take once more; F and F' tell whether it is inside before and after
room_change : (r r' : ℕ) (N F F' may : Bool) → r' ≤ r → (T N → r' + 1 ≤ r) → (T F' → T F ⊎ T N) → r' + cond ((N || may) && F') 1 0 ≤ r + cond (may && F) 1 0
room_change r r' N F F' may le less was = grind arith

-- an arm that is inside after a call was inside before it, or goes inside by it
inside_goes : (bit : Bool) (arms : ℕ → Stage) (a a' : Stage) (b' : Bool) → Goes bit arms a a' b' → T (at P.F a') → T (at P.F a) ⊎ T (at P.W a && at P.F a')
inside_goes bit arms a a' b' goes h = grind arith

-- how often b can still take while w is past its doorway with side s
abbrev to_take : ℕ → ℕ → Meaning → Bool → Bool → ℕ
to_take w b m may s = remaining w b m s + room may (m.arms b)

-- while w is past its doorway: b took k times since it ended it, o tells whether b was idle then
abbrev Taken : ℕ → ℕ → Meaning → ℕ → Bool → Bool → Type 0
Taken w b m k o may = (s : Bool) → T (is_past s (m.arms w)) → (k + to_take w b m may s ≤ 2) × (T o → k + to_take w b m may s ≤ 1)

-- once b takes, it can take once less
taken_now : (w b : ℕ) (m : Meaning) (k : ℕ) (o may mine : Bool) → (T mine → T (may && at P.F (m.arms b))) → Taken w b m k o may → Taken w b m (cond mine (k + 1) k) o (may && not mine)
taken_now w b m k o may mine fit L s h = let x = L s h in grind arith

module _ (w b : ℕ) (m m' : Meaning) (i : ℕ) (c : Change m m' i) (own : Inv m) where
  was_inside : T (at P.F (m'.arms b)) → T (at P.F (m.arms b)) ⊎ T (enters b m m')
  was_inside h = ⊎_elim
      (λ q. inside_goes m.bit m.arms (m.arms b) (m'.arms b) m'.bit (goes_at w b m m' i c own b q) h)
      (λ ne. let x = still w b m m' i c own b ne in grind arith)
      (cases_eq i b)

  taken_change : (k : ℕ) (o may : Bool) → Taken w b m k o may → Taken w b m' (cond (ends w m m') 0 k) (cond (ends w m m') (at P.I (m.arms b)) o) (enters b m m' || may)
  taken_change k o may L s h =
      let may' = enters b m m' || may in
      let x = count (λ s. T (is_past s (m.arms w))) (λ s. T (is_past s (m'.arms w))) (to_take w b m may) (to_take w b m' may')
      (ends w m m') false (at P.I (m.arms b)) o false k
      (λ s h. let y = L s h in (y.0, y.1, λ t. absurd t))
      (λ s. let y = left_room (same_bit m'.bit s) s may' (m'.arms b) in grind (arith, nat_tests))
      (λ t s. (λ d. let y = left_room (same_bit m'.bit s) s may' (m'.arms b) in let z = idle_stays w b m m' i c own t d in grind (arith, nat_tests), λ t. absurd t))
      (λ d s h.
      let y = remaining_change w b m m' i c own d s h in
      (y.0, room_change (remaining w b m s) (remaining w b m' s) (enters b m m') (at P.F (m.arms b)) (at P.F (m'.arms b)) may y.1 y.2 was_inside, λ t. absurd t, λ t. absurd t))
      s h in
      (x.0, x.1)

module _ {At : Type 0} (door : Table At) (phased : Phased door) (rules : ShowsRules door) (w b : ℕ) (wlo : 1 ≤ w) (blo : 1 ≤ b) where
  -- along a list of events
  taken_run : (es : List Event) (s : State At) → w ≤ s.n → b ≤ s.n → (j k : ℕ) (o may : Bool) → Overtaken door w b s j o → Taken w b (meaning_of door s) k o may → TakesOnce door b s es may
      → T (past_doorway door (run door s (calls_of es)) w) → (takes_on door w b s es k ≤ 2) × (T (latest_idle door w b s (calls_of es) o) → takes_on door w b s es k ≤ 1)
  taken_run [] s whi bhi j k o may h taken once there =
      let v = side_then door w s wlo whi there in
      let x = taken v.0 v.1 in
      ((let y = x.0 in omega arith), λ t. let y = x.1 t in omega arith)
  taken_run (called c ∷ es) s whi bhi j k o may h taken once there =
      let t = after door s c in
      taken_run es t (let z = after_n door s c in omega arith) (let z = after_n door s c in omega arith) _ _ _ (goes_inside door b s c || may)
      (overtaken_call door phased rules w b wlo blo s whi bhi j o h c)
      (rw (sym (ends_shown door phased s h.origin c w wlo whi), sym (enters_shown door phased s h.origin c b blo bhi), sym (phase_meant door s P.I b blo bhi))
      (taken_change w b (meaning_of door s) (meaning_of door t) (arm_of c) (change_at door rules s h.origin c) h.inv k o may taken))
      once there
  taken_run (takes i ∷ es) s whi bhi j k o may h taken once there =
      taken_run es s whi bhi j _ o (may && not (eqb i b)) h
      (taken_now w b (meaning_of door s) k o may (eqb i b) (rw (phase_meant door s P.F b blo bhi) once.0) taken)
      once.1 there

-- how often an arm takes, of any door that shows the rules
pub taking : {At : Type 0} (door : Table At) → Phased door → ShowsRules door → TakingBound door
taking door phased rules making events w b hw hb once =
    let start = made door making in
    let past = calls_of events in
    let x = past_range phased rules making past w hw in
    let y = arm_range phased rules making past b hb in
    taken_run door phased rules w b x.0 y.0 events start x.1 y.1 0 0 false false (start_overtaken door phased making w b) (λ s h. let e = start_rests door phased making w in absurd (grind arith)) once x.2
