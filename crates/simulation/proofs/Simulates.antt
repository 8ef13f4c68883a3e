-- A gate's state simulates the machine: its registers and records say what the machine's arms are.
use Rattle.std.proofs.Common.{◌≡◌, ℕ, ◌-◌, ◌<◌, ◌≤◌, Bool, eqb, false, not, T, ◌≢◌, List, length, get_or, set, Some, sym, refl, ap, ◌∙◌, subst, ⊎_elim, arith}
use Rattle.std.proofs.lemmas.Bool.{cases_eq, cond-false, ne_eqb}
use Rattle.std.proofs.lemmas.List.{length-set, get_or-set_same, get_or-set_other}
use Rattle.bank.specs.Lent.{Lent}
use Rattle.gate_model.specs.Registers.{group, value_read, regs_after}
use Rattle.gate_model.specs.Table.{Table}
use Rattle.gate_model.specs.Arms.{no_arm, side_after}
use Rattle.gate_model.specs.Tallies.{tallied}
use Rattle.gate_model.specs.States.{State, arm_at, phase_at, bit_of, with_arm}
use Rattle.gate_model.specs.Calls.{with_visit, access_at, arm_after}
use Rattle.gate_model.specs.declared.arm.Arm.{Arm}
use Rattle.gate_model.specs.declared.phase.Phase.{Phase}
use Rattle.gate_model.proofs.SameButRow.{tallied_table}
use Rattle.machine.specs.Kinds.{Kind}
use Rattle.machine.proofs.Machine.{Stance, waits, phase, side, out, outcome, step_arm, turn_step, is_step, act, turn, Move, may_step, with_stance_same, with_stance_other, step, Machine, moved_to, moved}
use Rattle.machine.proofs.Invariant.{Own}
use Rattle.simulation.proofs.Layouts.{bit_number, side_bit, Deed, look, is_d2, turned_by, told_by, access_for, read_by_deed, cells, cell, holds, deed, looks, cells_follow, bit_follows}
use Rattle.simulation.proofs.Plans.{Plan}
use Rattle.simulation.proofs.Deeds.{same_length, bit_after, others_after, own_after, value_seen}

abbrev pub register : {At : Type 0} → State At → ℕ → ℕ
register s q = get_or s.regs q 0

-- a record and the registers of arm i say what a stance is
pub record Shows {At : Type 0} {door : Table At} (plan : Plan door) (r : Arm At) (regs : List ℕ) (i : ℕ) (a : Stance) : Type 0 where
  pub stands : r.position ≡ plan.place a
  pub sided : r.side ≡ side_bit (side a)
  pub marked : r.out ≡ out a
  pub told : (c : ℕ) → c < cells plan.kind → get_or regs (cell plan.kind c i) 0 ≡ holds plan.kind c a

pub record Simulates {At : Type 0} {door : Table At} (plan : Plan door) (s : State At) (g : Machine) : Type 0 where
  pub kind : g.kind ≡ plan.kind
  pub size : s.n ≡ g.n
  pub bits : door.needed ≤ s.high
  pub fits : door.room s.n ≤ length s.regs
  pub table : s.n ≤ length s.arms
  pub group_is : register s group ≡ bit_number g.group
  pub shows : (i : ℕ) → 1 ≤ i → i ≤ s.n → Shows plan (arm_at door s i) s.regs i (g.arms i)

-- the side and the mark after a step
side_step : (δ : Kind) (n : ℕ) (β : Bool) (arms : ℕ → Stance) (a : Stance) (v : ℕ) → T (may_step a) → (T (is_d2 a) → v ≡ bit_number β)
    → side_after (is_d2 a) v (phase a) (phase (step_arm δ n β arms a)) (side_bit (side a)) ≡ side_bit (side (step_arm δ n β arms a))
side_step δ n β arms (waits u j p) v k h = outcome (λ r. Some (bit_number u) ≡ side_bit (side r)) δ n β (arms j) u (λ j p. refl) refl j p
side_step δ n β arms a v k h = grind arith

out_step : (δ : Kind) (n : ℕ) (β : Bool) (arms : ℕ → Stance) (a : Stance) → T (may_step a) → out a ≡ out (step_arm δ n β arms a)
out_step δ n β arms (waits u j p) k = outcome (λ r. false ≡ out r) δ n β (arms j) u (λ j p. refl) refl j p
out_step δ n β arms a k = grind arith

d2_sees : (δ : Kind) (β : Bool) (arms : ℕ → Stance) (a : Stance) → T (is_d2 a) → read_by_deed δ β arms (deed δ a) ≡ bit_number β
d2_sees δ β arms a h = grind arith

-- a move that is no step keeps the group, the side and the cells
visit_keeps : (δ : Kind) (m : Move) (γ : Kind) (n : ℕ) (β : Bool) (arms : ℕ → Stance) (a : Stance) → T (not (is_step m)) → (turn m β a ≡ β) × (side (act m γ n β arms a) ≡ side a) × ((c : ℕ) → holds δ c (act m γ n β arms a) ≡ holds δ c a)
visit_keeps δ m γ n β arms a k = (grind arith, grind arith, λ c. grind arith)

module _ {At : Type 0} {door : Table At} {plan : Plan door} where
  -- a change of one arm's record and of registers that no other arm has
  simulates_with : (s : State At) (g : Machine) → Simulates plan s g → (i : ℕ) → 1 ≤ i → i ≤ s.n → (regs : List ℕ) → length regs ≡ length s.regs → (r : Arm At) (b : Bool) (a : Stance)
      → get_or regs group 0 ≡ bit_number b
      → ((c k : ℕ) → c < cells plan.kind → 1 ≤ k → k ≢ i → get_or regs (cell plan.kind c k) 0 ≡ get_or s.regs (cell plan.kind c k) 0)
      → Shows plan r regs i a
      → Simulates plan (record s { regs = regs; arms = set s.arms (i - 1) r }) (moved_to g b i a)
  simulates_with s g mir i lo hi regs len r b a group_now others own = record {
    kind = mir.kind;
    size = mir.size;
    bits = mir.bits;
    fits = let x = mir.fits in omega arith;
    table = let x = mir.table in let y = length-set s.arms (i - 1) r in omega arith;
    group_is = group_now;
    shows = λ k klo khi. ⊎_elim
        (λ q. rw (q, get_or-set_same s.arms (i - 1) r (no_arm door) (let x = mir.table in omega arith), with_stance_same g.arms i a) own)
        (λ ne. let ne' : k ≢ i = ne in let h = mir.shows k klo khi in
        rw (get_or-set_other s.arms (i - 1) (k - 1) r (no_arm door) (omega arith), with_stance_other g.arms i a k ne)
        (record { stands = h.stands; sided = h.sided; marked = h.marked; told = λ c low. others c k low klo ne ∙ h.told c low }))
        (cases_eq k i);
  }

  -- the bit is the group
  pub bit_shown : (s : State At) (g : Machine) → Simulates plan s g → 1 ≤ s.n → bit_of s ≡ bit_number g.group
  bit_shown s g mir some = cond-false (eqb s.n 0) 0 (register s group) (ne_eqb s.n 0 (omega arith)) ∙ mir.group_is

  -- the memory, the rows and the turns have no part in simulating
  pub tallied_simulates : (s : State At) (memory : Lent) (regs : List ℕ) (k : ℕ) (p q : Phase) (arms : List (Arm At)) (turns : ℕ) (g : Machine) → Simulates plan (record s { regs = regs; arms = arms }) g
      → Simulates plan (record s { memory = memory; regs = regs; arms = tallied door k p q arms; turns = turns }) g
  tallied_simulates s memory regs k p q arms turns g mir =
      let same_as = tallied_table door k p q arms in
      record {
        size = mir.size;
        kind = mir.kind;
        bits = mir.bits;
        fits = mir.fits;
        table = let x = mir.table in let y = same_as.1 in omega arith;
        group_is = mir.group_is;
        shows = λ i lo hi.
            let v = same_as.0 (i - 1) in
            let h = mir.shows i lo hi in
            record { stands = v.0 ∙ h.stands; sided = v.1 ∙ h.sided; marked = v.2 ∙ h.marked; told = h.told };
      }

  module _ (s : State At) (g : Machine) (mir : Simulates plan s g) (i : ℕ) (lo : 1 ≤ i) (hi : i ≤ s.n) where
    abbrev a : Stance
    a = g.arms i

    h : Shows plan (arm_at door s i) s.regs i a
    h = mir.shows i lo hi

    -- the phase of arm i
    pub phase_is : phase_at door s i ≡ phase (g.arms i)
    phase_is = ap door.phase h.stands ∙ plan.phased a

    -- its access is its deed
    pub access_is : access_at door s i ≡ access_for plan.kind (deed plan.kind (g.arms i)) i
    access_is = cc (h.stands, h.sided, plan.accesses i a)

    module _ (own : Own g.n g.group g.arms a) (k : T (may_step a)) where
      looked : (c j : ℕ) → deed plan.kind a ≡ look c j → get_or s.regs (cell plan.kind c j) 0 ≡ holds plan.kind c (g.arms j)
      looked c j e =
          let x = looks plan.kind a c j e in
          let o : Own g.n g.group g.arms (waits x.1.0 j x.1.1) = subst (Own g.n g.group g.arms) x.1.2 own in
          (mir.shows j o.0 (let y = o.1 in let z = mir.size in omega arith)).told c x.0

      abbrev value : ℕ
      value = value_read s.regs (access_at door s i)

      value_is : value ≡ read_by_deed plan.kind g.group g.arms (deed plan.kind a)
      value_is = ap (value_read s.regs) access_is ∙ value_seen door plan s.high s.n s.regs mir.fits mir.bits a i lo hi (deed plan.kind a) refl g.group g.arms mir.group_is looked

      abbrev a' : Stance
      a' = step_arm plan.kind g.n g.group g.arms a

      position_is : (arm_after door s i).position ≡ plan.place a'
      position_is = cc (h.stands, h.sided, mir.size, value_is, plan.leads g.n g.group g.arms a k)

      side_is : (arm_after door s i).side ≡ side_bit (side a')
      side_is =
          let read : T (is_d2 a) → value ≡ bit_number g.group = λ t. value_is ∙ d2_sees plan.kind g.group g.arms a t in
          let q : door.phase (arm_after door s i).position ≡ phase a' = ap door.phase position_is ∙ plan.phased a' in
          cc (h.stands, h.sided, phase_is, q, plan.reads a, side_step plan.kind g.n g.group g.arms a value k read)

      pub step_simulates : Simulates plan (record s { regs = regs_after s.high s.regs (access_at door s i); arms = set s.arms (i - 1) (arm_after door s i) }) (moved g step i)
      step_simulates =
          let d : Deed = deed plan.kind a in
          let q = access_is in
          subst (λ δ. Simulates plan (record s { regs = regs_after s.high s.regs (access_at door s i); arms = set s.arms (i - 1) (arm_after door s i) }) (moved_to g (turn_step g.group a) i (step_arm δ g.n g.group g.arms a))) (sym mir.kind)
          (simulates_with s g mir i lo hi (regs_after s.high s.regs (access_at door s i))
          (ap (λ x. length (regs_after s.high s.regs x)) q ∙ same_length plan.kind s.high s.regs d i)
          (arm_after door s i) (turn_step g.group a) a'
          (ap (λ x. get_or (regs_after s.high s.regs x) group 0) q ∙ bit_after door plan s.high s.n s.regs mir.fits mir.bits a i lo hi d refl ∙ ap (turned_by d) mir.group_is ∙ sym (bit_follows plan.kind g.group a k))
          (λ c k' low klo ne. ap (λ x. get_or (regs_after s.high s.regs x) (cell plan.kind c k') 0) q ∙ others_after door plan s.high s.n s.regs mir.fits mir.bits a i lo hi d refl c k' low klo ne)
          (record {
            stands = position_is;
            sided = side_is;
            marked = h.marked ∙ out_step plan.kind g.n g.group g.arms a k;
            told = λ c low.
                ap (λ x. get_or (regs_after s.high s.regs x) (cell plan.kind c i) 0) q
                ∙ own_after door plan s.high s.n s.regs mir.fits mir.bits a i lo hi d refl c low
                ∙ ap (told_by c d) (h.told c low)
                ∙ sym (cells_follow plan.kind g.n g.group g.arms a c low k);
          }))

    -- a call without an access
    pub visit_simulates : (m : Move) (p : At) (v : ℕ) (o : Bool) → T (not (is_step m)) → p ≡ plan.place (act m g.kind g.n g.group g.arms a) → o ≡ out (act m g.kind g.n g.group g.arms a)
        → Simulates plan (with_arm i (with_visit p v o (arm_at door s i)) s) (moved g m i)
    visit_simulates m p v o k ep eo =
        let same = visit_keeps plan.kind m g.kind g.n g.group g.arms a k in
        simulates_with s g mir i lo hi s.regs refl (with_visit p v o (arm_at door s i)) (turn m g.group a) (act m g.kind g.n g.group g.arms a) (mir.group_is ∙ sym (ap bit_number same.0)) (λ c k low klo ne. refl)
        (record { stands = ep; sided = h.sided ∙ sym (ap side_bit same.1); marked = eo; told = λ c low. h.told c low ∙ sym (same.2 c) })
