-- Two gates of one door over any two banks, with as many arms that stand alike, go the same way: what else the banks hold makes no
-- difference. Where w is true, their numbers and the marks of their passes are the same too; else these may differ.
use Rattle.std.proofs.Common.{◌≡◌, ℕ, ◌+◌, ◌-◌, ◌<◌, ◌≤◌, Bool, true, false, not, ◌&&◌, ◌||◌, T, List, get_or, set, map, drop, None, Some, Option, inl, inr, sym, refl, ap, ap₂, ◌∙◌, subst, arith}
use Rattle.std.specs.List.{range_with_len}
use Rattle.std.proofs.lemmas.Bool.{cases_lt}
use Rattle.std.proofs.lemmas.Bool.Decides.{nat_tests}
use Rattle.std.proofs.lemmas.List.{get_or-set_same, get_or-set_other, get_or_append_left, get_or-take}
use Rattle.std.proofs.lemmas.List.FromFn.{length-map-range_with_len}
use Rattle.gate_model.specs.Table.{Table}
use Rattle.gate_model.specs.Accesses.{can_make, InRoom, ShowsAccesses}
use Rattle.gate_model.specs.Arms.{no_arm, side_of}
use Rattle.gate_model.specs.Calls.{for_arm, begin_refusal, step_refusal, admit_refusal, way_refusal, knows, refusal_of, access_at, done, after, unless, with_visit}
use Rattle.gate_model.specs.Law.{IsReached}
use Rattle.gate_model.specs.Making.{Making, arms_of, cleared, made_regs}
use Rattle.gate_model.specs.Registers.{group, value_read, regs_after, turns_bit}
use Rattle.gate_model.specs.SameButMarks.{SameProgress, SameButMarks}
use Rattle.gate_model.specs.States.{State, made, is_arm, arm_at, phase_at, bit_of, with_arm}
use Rattle.gate_model.specs.declared.access.Access.{Access}
use Rattle.gate_model.specs.declared.arm.Arm.{Arm}
use Rattle.gate_model.specs.declared.call.Call.{Call}
use Rattle.gate_model.specs.declared.call.Call.TheVariants.{Begin as begin, Step as step, Admit as admit, Confirm as confirm, Leave as leave, Look as look, Tally as tally, Way as way}
use Rattle.gate_model.specs.declared.refusal.Refusal.{Refusal}
use Rattle.gate_model.proofs.Accepted.{known_arm, arm_in, arm_is, leave_none}
use Rattle.gate_model.proofs.Always.{same_at}
use Rattle.gate_model.proofs.Bools.{and_T}
use Rattle.gate_model.proofs.Makeable.{accesses_one, makes_reached}
use Rattle.gate_model.proofs.Origins.{reached_made, reached_after}
use Rattle.gate_model.proofs.Seen.{trimmed, seen, seen_at, seen_set, step_seen, seen_step}
use Rattle.gate_model.proofs.Spared.{arms_having_read}

-- the same values in the first k registers
abbrev pub SameUpTo : ℕ → List ℕ → List ℕ → Type 0
SameUpTo k regs other = (q : ℕ) → q < k → get_or other q 0 ≡ get_or regs q 0

-- the same after an access that both banks take, and the same turn of the bit by it
module _ {At : Type 0} (s t : State At) (a : Access) (k : ℕ) (m : T (can_make s a)) (n : T (can_make t a)) (same : SameUpTo k s.regs t.regs) where
  regs_same : SameUpTo k (regs_after s.high s.regs a) (regs_after t.high t.regs a)
  regs_same q l = let e = same q l in grind (arith, nat_tests, get_or-set_same, get_or-set_other)

  turn_same : 1 ≤ k → turns_bit t.high t.regs a ≡ turns_bit s.high s.regs a
  turn_same some = let e = same group some in grind (arith, nat_tests)

-- whether a call is refused by the mark of a pass
abbrev pub asks_mark : Call → Bool
asks_mark (admit i) = true
asks_mark (leave gate i) = true
asks_mark c = false

module _ {At : Type 0} (door : Table At) where
  -- two gates stand alike: as far as the arms go their records, registers and turns are equal, and where w is true numbers and marks too
  pub record StandAlike (w : Bool) (s t : State At) : Type 0 where
    pub number : T w → t.number ≡ s.number
    pub n : t.n ≡ s.n
    pub arms : seen door w s.n t.arms ≡ seen door w s.n s.arms
    pub registers : 1 ≤ s.n → SameUpTo (door.room s.n) s.regs t.regs
    pub turns : t.turns ≡ s.turns

  -- they stand alike, and a making and calls lead to each
  pub record Twins (w : Bool) (s t : State At) : Type 0 where
    pub same : StandAlike w s t
    pub reached : IsReached door s
    pub other : IsReached door t

  -- of two gates just made
  cleared_at : (k q : ℕ) (regs : List ℕ) → q < k → get_or (cleared door k regs) q 0 ≡ get_or (map door.first (range_with_len 0 k)) q 0
  cleared_at k q regs l = get_or_append_left (map door.first (range_with_len 0 k)) (drop k regs) 0 q (omega (arith, length-map-range_with_len door.first 0 k))

  made_at : (n q : ℕ) (regs : List ℕ) → 1 ≤ n → q < door.room n → get_or (made_regs door n regs) q 0 ≡ get_or (map door.first (range_with_len 0 (door.room n))) q 0
  made_at n q regs some l = let e = cleared_at (door.room n) q regs l in grind (arith, nat_tests)

  pub made_twins : (w : Bool) (making other : Making) → (T w → other.number ≡ making.number) → arms_of door other ≡ arms_of door making → Twins w (made door making) (made door other)
  made_twins w making other number e = record {
    same = record {
      number = number;
      n = e;
      arms = refl;
      registers = λ some q l.
          ap (λ n. get_or (made_regs door n other.regs) q 0) e
          ∙ (made_at (arms_of door making) q other.regs some l ∙ sym (made_at (arms_of door making) q making.regs some l));
      turns = refl;
    };
    reached = reached_made door making _ refl;
    other = reached_made door other _ refl;
  }

  -- an arm of both
  module _ (w : Bool) (s t : State At) (h : StandAlike w s t) (i : ℕ) where
    in_both : is_arm t i ≡ is_arm s i
    in_both = let n = h.n in grind arith

    pub arm_same : T (is_arm s i) → trimmed w s.n (arm_at door t i) ≡ trimmed w s.n (arm_at door s i)
    arm_same known =
        let r = arm_in s i known in
        let l : i - 1 < s.n = (let lo = r.0 in let hi = r.1 in omega arith) in
        sym (seen_at door w s.n t.arms (i - 1) l) ∙ ap (λ arms. get_or arms (i - 1) (no_arm door)) h.arms ∙ seen_at door w s.n s.arms (i - 1) l

    pub phase_same : T (is_arm s i) → phase_at door t i ≡ phase_at door s i
    phase_same known = ap (λ (a : Arm At). door.phase a.position) (arm_same known)

    pub mark_same : T w → T (is_arm s i) → (arm_at door t i).out ≡ (arm_at door s i).out
    mark_same marked known = let e = ap (λ (a : Arm At). a.out) (arm_same known) in grind arith

    pub known_same : T w → (gate : ℕ) → knows door t gate i ≡ knows door s gate i
    known_same marked gate = let e = mark_same marked in let n = h.number marked in let b = in_both in grind arith

    by_arm : (x y : Option Refusal) → (T (is_arm s i) → x ≡ y) → for_arm t i x ≡ for_arm s i y
    by_arm x y e = let b = in_both in grind arith

  -- the same calls are refused, for the same reasons
  pub same_refusal : (w : Bool) (s t : State At) (c : Call) → StandAlike w s t → T (w || not (asks_mark c)) → refusal_of door t c ≡ refusal_of door s c
  same_refusal w s t (begin i) h m =
      by_arm w s t h i _ _ (λ k. ap₂ begin_refusal (phase_same w s t h i k) (ap (λ (a : Arm At). a.visits) (arm_same w s t h i k)))
  same_refusal w s t (step i) h m = by_arm w s t h i _ _ (λ k. ap step_refusal (phase_same w s t h i k))
  same_refusal w s t (admit i) h m = by_arm w s t h i _ _ (λ k. ap₂ admit_refusal (phase_same w s t h i k) (mark_same w s t h i (grind arith) k))
  same_refusal w s t (confirm gate i) h m = refl
  same_refusal w s t (leave gate i) h m = let e = known_same w s t h i (grind arith) gate in grind arith
  same_refusal w s t (look i) h m = by_arm w s t h i None None (λ k. refl)
  same_refusal w s t (tally i j) h m = by_arm w s t h i _ _ (λ k. by_arm w s t h j None None (λ l. refl))
  same_refusal w s t (way i) h m = by_arm w s t h i _ _ (λ k. ap way_refusal (phase_same w s t h i k))

  -- a record that is moved without an access
  moved_same : (w : Bool) (f g : Arm At → Arm At) (s t : State At) (i : ℕ) → ((a : Arm At) → trimmed w s.n (f a) ≡ g (trimmed w s.n a)) → i - 1 < s.n → StandAlike w s t
      → StandAlike w (with_arm i (f (arm_at door s i)) s) (with_arm i (f (arm_at door t i)) t)
  moved_same w f g s t i trims l h =
      let move : (arms : List (Arm At)) → seen door w s.n (set arms (i - 1) (f (get_or arms (i - 1) (no_arm door))))
      ≡ set (seen door w s.n arms) (i - 1) (g (get_or (seen door w s.n arms) (i - 1) (no_arm door))) =
      λ arms. seen_set door w s.n arms (i - 1) l _ ∙ ap (set (seen door w s.n arms) (i - 1)) (trims _ ∙ ap g (sym (seen_at door w s.n arms (i - 1) l))) in
      record {
        number = h.number;
        n = h.n;
        arms = move t.arms ∙ ap (λ arms. set arms (i - 1) (g (get_or arms (i - 1) (no_arm door)))) h.arms ∙ sym (move s.arms);
        registers = h.registers;
        turns = h.turns;
      }

  pub unless_same : (P : State At → State At → Type 0) (r : Option Refusal) (x y x' y' : State At) → (r ≡ None → P x x') → P y y' → P (unless r x y) (unless r x' y')
  unless_same P None x y x' y' new old = new refl
  unless_same P (Some r) x y x' y' new old = old

  value_same : (n : ℕ) (regs other : List ℕ) (a : Access) → InRoom door n a → SameUpTo (door.room n) regs other → value_read other a ≡ value_read regs a
  value_same n regs other a within same = grind (arith, same)

  -- what is equal where they stand alike
  progress_same : (w : Bool) (n : ℕ) (a b : Arm At) → trimmed w n b ≡ trimmed w n a → SameProgress n a b
  progress_same w n a b e = record {
    position = ap (λ (x : Arm At). x.position) (sym e);
    side = ap (λ (x : Arm At). x.side) (sym e);
    visits = ap (λ (x : Arm At). x.visits) (sym e);
    row = λ k l. sym (get_or-take n a.row k 0 l) ∙ ap (λ (x : Arm At). get_or x.row k 0) (sym e) ∙ get_or-take n b.row k 0 l;
    notes = λ k l. sym (get_or-take n a.notes k false l) ∙ ap (λ (x : Arm At). get_or x.notes k false) (sym e) ∙ get_or-take n b.notes k false l;
  }

  pub same_but_marks : (w : Bool) (s t : State At) → StandAlike w s t → SameButMarks door s t
  same_but_marks w s t h = record {
    n = sym h.n;
    registers = λ some q l. sym (h.registers some q l);
    arms = λ i lo hi. progress_same w s.n (arm_at door s i) (arm_at door t i) (arm_same w s t h i (arm_is s i lo hi));
    turns = sym h.turns;
  }

  -- the bit is in one of the registers that arms take
  pub bit_same : ((n : ℕ) → 1 ≤ door.room n) → (s t : State At) → SameButMarks door s t → bit_of t ≡ bit_of s
  bit_same some_room s t same =
      let n = same.n in
      elim (cases_lt 0 s.n) [
        | inl some ↦ let e = same.registers some group (some_room s.n) in grind (arith, nat_tests)
        | inr none ↦ grind (arith, nat_tests)
      ]

module _ {At : Type 0} (door : Table At) (shown : ShowsAccesses door) (some_room : (n : ℕ) → 1 ≤ door.room n) (w : Bool) where
  read_same : (s t : State At) (i v : ℕ) → i - 1 < s.n → StandAlike door w s t → seen door w s.n (arms_having_read door t i v) ≡ seen door w s.n (arms_having_read door s i v)
  read_same s t i v l h =
      ap (λ n. seen door w s.n (arms_having_read door (record t { n = n }) i v)) h.n
      ∙ seen_step door w s.n (i - 1) v l t.arms ∙ ap (step_seen door w s.n (i - 1) v) h.arms ∙ sym (seen_step door w s.n (i - 1) v l s.arms)

  access_same : (s t : State At) (i : ℕ) → refusal_of door s (step i) ≡ None → StandAlike door w s t → access_at door t i ≡ access_at door s i
  access_same s t i e h = ap (λ (x : Arm At). door.access i (side_of x.side) x.position) (arm_same door w s t h i (grind (arith, nat_tests)))

  -- an accepted step reads the same value
  pub read_alike : (s t : State At) (i : ℕ) → refusal_of door s (step i) ≡ None → Twins door w s t → value_read t.regs (access_at door t i) ≡ value_read s.regs (access_at door s i)
  read_alike s t i e h =
      let r = known_arm s i (step_refusal (phase_at door s i)) e in
      let regs = h.same.registers (let x = r.0 in let y = r.1 in omega arith) in
      ap (value_read t.regs) (access_same s t i e h.same) ∙ same_at door _ _ (λ o. value_same door s.n s.regs t.regs (access_at door s i) (accesses_one door shown s i o e) regs) h.reached

  stepped_same : (s t : State At) (i : ℕ) → refusal_of door s (step i) ≡ None → Twins door w s t → StandAlike door w (done door s (step i)) (done door t (step i))
  stepped_same s t i e h =
      let same = h.same in
      let r = known_arm s i (step_refusal (phase_at door s i)) e in
      let some : 1 ≤ s.n = (let x = r.0 in let y = r.1 in omega arith) in
      let below : i - 1 < s.n = (let x = r.0 in let y = r.1 in omega arith) in
      let regs = same.registers some in
      let a = access_at door s i in
      let access : access_at door t i ≡ a = access_same s t i e same in
      let value : value_read t.regs (access_at door t i) ≡ value_read s.regs a = read_alike s t i e h in
      let makes = makes_reached door shown s i h.reached e in
      let other_makes = subst (λ x. T (can_make t x)) access (makes_reached door shown t i h.other (same_refusal door w s t (step i) same (grind arith) ∙ e)) in
      record {
        number = same.number;
        n = same.n;
        arms = ap (λ v. seen door w s.n (arms_having_read door t i v)) value ∙ read_same s t i (value_read s.regs a) below same;
        registers = λ _. subst (λ x. SameUpTo (door.room s.n) (regs_after s.high s.regs a) (regs_after t.high t.regs x)) (sym access)
            (regs_same s t a (door.room s.n) makes other_makes regs);
        turns = (let turn = turn_same s t a (door.room s.n) makes other_makes regs (some_room s.n) in let turns = same.turns in cc);
      }

  -- after an accepted call they stand alike
  pub done_same : (s t : State At) (c : Call) → refusal_of door s c ≡ None → Twins door w s t → StandAlike door w (done door s c) (done door t c)
  done_same s t (begin i) e h =
      let r = known_arm s i (begin_refusal (phase_at door s i) (arm_at door s i).visits) e in
      moved_same door w (λ a. with_visit door.entry (a.visits + 1) a.out a) (λ a. with_visit door.entry (a.visits + 1) a.out a) s t i (λ a. refl) (let x = r.0 in let y = r.1 in omega arith) h.same
  done_same s t (step i) e h = stepped_same s t i e h
  done_same s t (admit i) e h =
      let r = known_arm s i (admit_refusal (phase_at door s i) (arm_at door s i).out) e in
      moved_same door w (λ a. with_visit a.position a.visits true a) (λ a. with_visit a.position a.visits (w && true) a) s t i (λ a. refl) (let x = r.0 in let y = r.1 in omega arith) h.same
  done_same s t (leave g i) e h =
      let r = arm_in s i (and_T (is_arm s i) _ (and_T _ _ (leave_none (knows door s g i) e)).1).0 in
      moved_same door w (λ a. with_visit door.exit a.visits false a) (λ a. with_visit door.exit a.visits (w && false) a) s t i (λ a. refl) (let x = r.0 in let y = r.1 in omega arith) h.same
  done_same s t c e h = h.same

  pub after_twins : (s t : State At) (c : Call) → T (w || not (asks_mark c)) → Twins door w s t → Twins door w (after door s c) (after door t c)
  after_twins s t c m h = record {
    same = subst (λ r. StandAlike door w (after door s c) (unless r (done door t c) t)) (sym (same_refusal door w s t c h.same m))
        (unless_same door (StandAlike door w) (refusal_of door s c) (done door s c) s (done door t c) t (λ e. done_same s t c e h) h.same);
    reached = reached_after door s c _ refl h.reached;
    other = reached_after door t c _ refl h.other;
  }
