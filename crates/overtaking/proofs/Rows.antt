-- The row and notes of an arm are what the history tells of its latest wait.
use Rattle.std.proofs.Common.{◌≡◌, ℕ, ◌+◌, ◌-◌, ◌<◌, ◌≤◌, min, Bool, true, false, cond, not, ◌&&◌, T, eqb, ◌≢◌, ◌⊎◌, List, [], ◌∷◌, map, length, get_or, set, replicate, sym, refl, ap, ◌∙◌, subst, ⊎_elim, arith}
use Rattle.std.proofs.lemmas.Grind.{get_or-set_at}
use Rattle.std.proofs.lemmas.Bool.Decides.{nat_tests}
use lib.Dec.{eqb_refl}
use Rattle.std.proofs.lemmas.Bool.{cases_eq}
use Rattle.std.proofs.lemmas.List.{length-replicate, get_or-replicate, length-set, get_or-set_same, get_or-set_other, get_or-map}
use Rattle.gate_model.specs.Limits.{arm_limit, tally_limit}
use Rattle.gate_model.specs.Arms.{no_arm}
use Rattle.gate_model.specs.States.{State, arm_at, phase_at, with_arm}
use Rattle.gate_model.specs.Calls.{with_visit, arm_after, stepped, after, run}
use Rattle.gate_model.specs.History.{is_in, step_of, ends_doorway, goes_inside, entries_before, latest_lost, count_on, latest_idle}
use Rattle.gate_model.specs.declared.arm.Arm.{Arm}
use Rattle.gate_model.specs.declared.call.Call.{Call}
use Rattle.gate_model.proofs.Bools.{by, is_true, T_or_left}
use Rattle.gate_model.specs.Table.{Table}
use Rattle.gate_model.specs.Phases.{same_phase}
use Rattle.gate_model.specs.Tallies.{with_row, counted, is_idle, tallied}
use Rattle.gate_model.specs.Rules.{Phased, ShowsRules}
use Rattle.gate_model.specs.declared.phase.Phase.{Phase}
use Rattle.gate_model.specs.declared.phase.Phase.TheVariants as P
use Rattle.gate_model.proofs.Bounds.{all_there}
use Rattle.gate_model.proofs.Effects.{begins, admits, leaves, Does, nothing, visits, steps, does, no_step}
use Rattle.gate_model.proofs.SameButRow.{tallied_table}
use Rattle.overtaking.proofs.Entries.{Overtaken, overtaken_call, bound, waiting_call}
use Rattle.gate_model.proofs.Unaltered.{after_n}

-- what a call makes of the count r of b in w's latest wait, and of the count k since w ended its doorway:
-- w ends its doorway by it (E), waited before it (V) and after it (W), or goes inside by it (I); b goes inside by it (G)
module _ (E V W I G : Bool) (starts : T E → T W) (over : T I → T W → ⊥) (was : T W → T V ⊎ T E) (stays : T V → T W ⊎ T I) where
  abbrev lost : ℕ → ℕ
  lost r = cond E 0 (cond (G && (V && not I)) (r + 1) r)

  abbrev since : ℕ → ℕ
  since k = cond E 0 (cond G (k + 1) k)

  -- with x still to come before w goes inside
  onward : (r x : ℕ) → cond E x (cond V (r + cond I 0 (cond G 1 0 + x)) r) ≡ cond W (lost r + x) (lost r)
  onward r x = grind arith

  same_count : (r k : ℕ) → (T V → r ≡ k) → T W → lost r ≡ since k
  same_count r k h t = grind arith

  few_lost : (r k : ℕ) (d o : Bool) → (T V → r ≡ k) → (r ≤ 2) × (T o → r ≤ 1) → (T W → (since k ≤ 2) × (T (cond E d o) → since k ≤ 1))
      → (lost r ≤ 2) × (T (cond E d o) → lost r ≤ 1)
  few_lost r k d o h few bound = let x = same_count r k h in grind arith

-- a record whose row and notes tell k and o of arm b
pub record Row {At : Type 0} (b : ℕ) (a : Arm At) (k : ℕ) (o : Bool) : Type 0 where
  pub full : length a.row ≡ arm_limit
  pub count : get_or a.row (b - 1) 0 ≡ k
  pub note : get_or a.notes (b - 1) false ≡ o

-- the row and notes of w tell r and o of b, and while w waits r is k, the count since it ended its doorway
pub record Kept {At : Type 0} (door : Table At) (w b : ℕ) (s : State At) (r k : ℕ) (o : Bool) : Type 0 where
  pub row : Row b (arm_at door s w) r o
  pub since : T (is_in door P.W s w) → r ≡ k
  pub low : (r ≤ 2) × (T o → r ≤ 1)

module _ {At : Type 0} (door : Table At) where
  -- what the tally makes of the record at its own place, and of one at another place
  abbrev own_row : ℕ → Phase → Phase → List (Arm At) → Arm At
  own_row k p q arms =
      cond (same_phase p P.D && same_phase q P.W) (with_row (replicate arm_limit 0) (map (is_idle door) arms) (get_or arms k (no_arm door))) (get_or arms k (no_arm door))

  tallied_own : (k : ℕ) (p q : Phase) (arms : List (Arm At)) → k < length arms → door.phase (get_or arms k (no_arm door)).position ≡ q
      → get_or (tallied door k p q arms) k (no_arm door) ≡ own_row k p q arms
  tallied_own k p q arms l e = grind (arith, get_or-set_same, get_or-map)

  tallied_other : (k : ℕ) (p q : Phase) (arms : List (Arm At)) (j : ℕ) → j < length arms → j ≢ k
      → get_or (tallied door k p q arms) j (no_arm door) ≡ cond (same_phase p P.W && same_phase q P.F) (counted door k (get_or arms j (no_arm door))) (get_or arms j (no_arm door))
  tallied_other k p q arms j l ne = grind (arith, get_or-set_other, get_or-map)

module _ {At : Type 0} (door : Table At) where
  module _ (w b n : ℕ) (wlo : 1 ≤ w) (whi : w ≤ n) (blo : 1 ≤ b) (bhi : b ≤ n) (few : n ≤ arm_limit) where
    kept : (a a' : Arm At) (k : ℕ) (o : Bool) → a'.row ≡ a.row → a'.notes ≡ a.notes → Row b a k o → Row b a' k o
    kept a a' k o er en h = record {
      full = ap length er ∙ h.full;
      count = ap (λ y. get_or y (b - 1) 0) er ∙ h.count;
      note = ap (λ y. get_or y (b - 1) false) en ∙ h.note;
    }

    module _ (s : State At) (table : n ≤ length s.arms) where
      -- a call without an access
      visit_row : (i : ℕ) (p : At) (v : ℕ) (m : Bool) (k : ℕ) (o : Bool) → Row b (arm_at door s w) k o → Row b (arm_at door (with_arm i (with_visit p v m (arm_at door s i)) s) w) k o
      visit_row i p v m k o h = ⊎_elim
          (λ q.
          let r : Arm At = with_visit p v m (arm_at door s i) in
          let e : arm_at door (with_arm i r s) w ≡ r = ap (λ j. get_or (set s.arms (i - 1) r) j (no_arm door)) q ∙ get_or-set_same s.arms (i - 1) r (no_arm door) (omega arith) in
          let was : arm_at door s i ≡ arm_at door s w = ap (λ j. get_or s.arms j (no_arm door)) (sym q) in
          subst (λ a. Row b a k o) (sym e) (kept (arm_at door s w) r k o (ap (λ a. a.row) was) (ap (λ a. a.notes) was) h))
          (λ ne. subst (λ a. Row b a k o) (sym (get_or-set_other s.arms (i - 1) (w - 1) _ (no_arm door) ne)) h)
          (cases_eq (w - 1) (i - 1))

      module _ (i : ℕ) (lo : 1 ≤ i) (hi : i ≤ n) where
        -- the table with the record of arm i replaced
        abbrev base : List (Arm At)
        base = set s.arms (i - 1) (arm_after door s i)

        base_length : length base ≡ length s.arms
        base_length = length-set s.arms (i - 1) (arm_after door s i)

        base_own : get_or base (i - 1) (no_arm door) ≡ arm_after door s i
        base_own = get_or-set_same s.arms (i - 1) (arm_after door s i) (no_arm door) (omega arith)

        base_other : (v : ℕ) → 1 ≤ v → v ≢ i → get_or base (v - 1) (no_arm door) ≡ arm_at door s v
        base_other v vlo ne = get_or-set_other s.arms (i - 1) (v - 1) (arm_after door s i) (no_arm door) (omega arith)

        -- the phase of the arm that stepped
        phase_own : phase_at door (stepped door i s) i ≡ door.phase (arm_after door s i).position
        phase_own = ap door.phase (((tallied_table door (i - 1) (phase_at door s i) (door.phase (arm_after door s i).position) base).0 (i - 1)).0 ∙ ap (λ a. a.position) base_own)

      -- the state t follows by a step of the arms that st tells: w ends its doorway, an arm v goes inside, b does while w waits on
      abbrev ends : State At → (ℕ → Bool) → Bool
      ends t st = st w && (is_in door P.D s w && is_in door P.W t w)

      abbrev enters : ℕ → State At → (ℕ → Bool) → Bool
      enters v t st = st v && (is_in door P.W s v && is_in door P.F t v)

      abbrev passes : State At → (ℕ → Bool) → Bool
      passes t st = enters b t st && (is_in door P.W s w && not (enters w t st))

      abbrev Told : State At → (ℕ → Bool) → ℕ → Bool → Type 0
      Told t st k o = Row b (arm_at door t w) (cond (ends t st) 0 (cond (passes t st) (k + 1) k)) (cond (ends t st) (is_in door P.I s b) o)

      -- the step of w itself
      module _ (k : ℕ) (o : Bool) (h : Row b (arm_at door s w) k o) where
        abbrev after_own : Phase
        after_own = door.phase (arm_after door s w).position

        idle_noted : T (is_in door P.D s w) → T (same_phase after_own P.W) → is_idle door (get_or (base w wlo whi) (b - 1) (no_arm door)) ≡ is_in door P.I s b
        idle_noted d t = let x = base_own w wlo whi in let y = base_other w wlo whi b blo in let c = cases_eq b w in grind arith

        own_kept : (E : Bool) → (T E → T (is_in door P.D s w) × T (same_phase after_own P.W))
            → Row b (cond E (with_row (replicate arm_limit 0) (map (is_idle door) (base w wlo whi)) (arm_after door s w)) (arm_after door s w)) (cond E 0 k) (cond E (is_in door P.I s b) o)
        own_kept true is_E = record {
          full = length-replicate {A = ℕ} arm_limit 0;
          count = get_or-replicate arm_limit (b - 1) 0 0 (omega arith);
          note = get_or-map (is_idle door) (base w wlo whi) (b - 1) (no_arm door) false (let x = base_length w wlo whi in omega arith) ∙ idle_noted (is_E tt).0 (is_E tt).1;
        }
        own_kept false is_E = kept (arm_at door s w) (arm_after door s w) k o refl refl h

        own_step : Told (stepped door w s) (λ v. eqb w v) k o
        own_step =
            let ended : ends (stepped door w s) (λ v. eqb w v) ≡ (is_in door P.D s w && same_phase after_own P.W) =
            ap (λ x. x && (is_in door P.D s w && is_in door P.W (stepped door w s) w)) (is_true (eqb w w) (eqb_refl w)) ∙ ap (λ z. is_in door P.D s w && same_phase z P.W) (phase_own w wlo whi) in
            let none : passes (stepped door w s) (λ v. eqb w v) ≡ false = grind (arith, nat_tests) in
            let e : arm_at door (stepped door w s) w ≡ own_row door (w - 1) (phase_at door s w) after_own (base w wlo whi) =
            tallied_own door (w - 1) (phase_at door s w) after_own (base w wlo whi) (let x = base_length w wlo whi in omega arith) (ap (λ a. door.phase a.position) (base_own w wlo whi)) in
            rw (ended, none, e, base_own w wlo whi) (own_kept (is_in door P.D s w && same_phase after_own P.W) (λ t. grind arith))

      -- the step of another arm
      module _ (i : ℕ) (lo : 1 ≤ i) (hi : i ≤ n) (ne : i ≢ w) (k : ℕ) (o : Bool) (low : k ≤ 2) (h : Row b (arm_at door s w) k o) where
        other_count : (N : Bool) → (T N → i ≡ b) → (T (not N) → i ≢ b)
            → get_or (set (arm_at door s w).row (i - 1) (min (get_or (arm_at door s w).row (i - 1) 0 + 1) tally_limit)) (b - 1) 0 ≡ cond N (k + 1) k
        other_count N f g = let len = h.full in let was = h.count in grind (arith, nat_tests, get_or-set_at, get_or-set_other)

        -- it goes inside (Z), or not; where b does while w waits (N)
        other_kept : (Z N : Bool) → (T N → (i ≡ b) × T Z × T (is_in door P.W s w)) → (T (not N) → i ≡ b → T Z → T (is_in door P.W s w) → ⊥)
            → Row b (cond Z (counted door (i - 1) (arm_at door s w)) (arm_at door s w)) (cond N (k + 1) k) o
        other_kept false N is_N not_N = let x = is_N in grind arith
        other_kept true N is_N not_N =
            by (λ a. Row b a (cond N (k + 1) k) o) (is_in door P.W s w) (with_row (set (arm_at door s w).row (i - 1) (min (get_or (arm_at door s w).row (i - 1) 0 + 1) tally_limit)) (arm_at door s w).notes (arm_at door s w)) (arm_at door s w)
            (λ t. record {
              full = length-set (arm_at door s w).row (i - 1) _ ∙ h.full;
              count = other_count N (λ y. (is_N y).0) (λ d q. not_N d q tt t);
              note = h.note;
            })
            (λ d. record { full = h.full; count = let x = is_N in let y = h.count in grind arith; note = h.note })

        other_step : Told (stepped door i s) (λ v. eqb i v) k o
        other_step =
            let q : Phase = door.phase (arm_after door s i).position in
            let Z : Bool = is_in door P.W s i && same_phase q P.F in
            let E : ends (stepped door i s) (λ v. eqb i v) ≡ false = grind (arith, nat_tests) in
            let e : arm_at door (stepped door i s) w ≡ cond Z (counted door (i - 1) (arm_at door s w)) (arm_at door s w) =
            tallied_other door (i - 1) (phase_at door s i) q (base i lo hi) (w - 1) (let x = base_length i lo hi in omega arith) (omega arith)
            ∙ ap (λ a. cond Z (counted door (i - 1) a) a) (base_other i lo hi w wlo (λ z. ne (sym z))) in
            let x = phase_own i lo hi in
            rw (E, e) (other_kept Z (passes (stepped door i s) (λ v. eqb i v)) (λ t. grind (arith, nat_tests)) (λ d ib z t. grind (arith, nat_tests)))

      -- any call
      row_call : s.n ≡ n → (k : ℕ) (o : Bool) → k ≤ 2 → Row b (arm_at door s w) k o → (c : Call) (ok : Bool) (t : State At) → Does door s c ok t → Told t (λ v. ok && step_of v c) k o
      row_call sn k o low h c ok t (nothing idles) = let x = no_step c ok idles w in let y = no_step c ok idles b in rw (x, y) h
      row_call sn k o low h c ok t (visits _ (begins {i = i} _ _)) = visit_row i door.entry _ _ k o h
      row_call sn k o low h c ok t (visits _ (admits {i = i} _)) = visit_row i (arm_at door s i).position _ _ k o h
      row_call sn k o low h c ok t (visits _ (leaves {i = i} _ _)) = visit_row i door.exit _ _ k o h
      row_call sn k o low h c ok t (steps {i = i} known _ _) = ⊎_elim
          (λ q. subst (λ j. Told (stepped door j s) (λ v. eqb j v) k o) (sym q) (own_step k o h))
          (λ ne. other_step i known.0 (let y = known.1 in omega arith) ne k o low h)
          (cases_eq i w)

    module _ (phased : Phased door) (rules : ShowsRules door) where
      pub kept_run : (cs : List Call) (s : State At) → s.n ≡ n → (r k : ℕ) (o : Bool) → Overtaken door w b s k o → Kept door w b s r k o
          → Kept door w b (run door s cs) (latest_lost door w b s cs (cond (is_in door P.W s w) (r + entries_before door w b s cs) r)) (count_on door w b s cs k) (latest_idle door w b s cs o)
      kept_run [] s sn r k o past h = let e : cond (is_in door P.W s w) (r + 0) r ≡ r = grind arith in rw e h
      kept_run (c ∷ cs) s sn r k o past h =
          let t = after door s c in
          let E = ends_doorway door w s c in
          let I = goes_inside door w s c in
          let G = goes_inside door b s c in
          let V = is_in door P.W s w in
          let W = is_in door P.W t w in
          let whi' : w ≤ s.n = omega arith in
          let bhi' : b ≤ s.n = omega arith in
          let table = all_there door s past.origin in
          let moves = waiting_call door phased s past.origin c w wlo whi' rules in
          let starts : T E → T W = λ x. grind arith in
          let over : T I → T W → ⊥ = λ x y. grind arith in
          let past' = overtaken_call door phased rules w b wlo blo s whi' bhi' k o past c in
          let bound' : T W → _ = λ y. bound door w b t wlo (let z = after_n door s c in omega arith) _ _ past' (T_or_left W _ y) in
          let x = entries_before door w b t cs in
          rw (onward E V W I G starts over moves.0 moves.1 r x)
          (kept_run cs t (after_n door s c ∙ sn) _ _ _ past'
          (record {
            row = row_call s (let z = sn in omega arith) sn r o h.low.0 h.row c _ _ (does door s c);
            since = same_count E V W I G starts over moves.0 moves.1 r k h.since;
            low = few_lost E V W I G starts over moves.0 moves.1 r k (is_in door P.I s b) o h.since h.low bound';
          }))
