-- From a making on a door with a plan shows the rules of the meaning.
use Rattle.std.proofs.Common.{◌≡◌, ℕ, ◌≤◌, Bool, true, false, T, List, Option, sym, refl, ap, ◌∙◌, ⊎_elim, arith}
use Rattle.std.proofs.lemmas.Bool.Decides.{nat_tests}
use Rattle.std.proofs.lemmas.Bool.{cases_eq}
use Rattle.gate_model.specs.Making.{Making}
use Rattle.gate_model.specs.Table.{Table}
use Rattle.gate_model.specs.Arms.{side_of}
use Rattle.gate_model.specs.States.{State, made, is_arm, arm_at, phase_at, bit_of}
use Rattle.gate_model.specs.Calls.{after, run}
use Rattle.gate_model.specs.Meaning.{resting, Meaning, as_bit as is_one, stage_of, meaning_of, arm_of}
use Rattle.gate_model.specs.Rules.{Phased, ShowsRules, ShowsBits}
use Rattle.gate_model.specs.declared.call.Call.{Call}
use Rattle.gate_model.specs.declared.phase.Phase.TheVariants as P
use Rattle.gate_model.proofs.Changes.{rests, Change, keeps_of}
use Rattle.gate_model.proofs.Bools.{by, test, clash}
use Rattle.gate_model.proofs.Accepted.{arm_in, arm_is}
use Rattle.machine.proofs.Machine.{Stance, idle, d1, inside, x1, phase, side, at, Machine, moved}
use Rattle.machine.proofs.Invariant.{Inv, inv_moved}
use Rattle.machine.proofs.Rules.{stage, meaning, move_change}
use Rattle.simulation.proofs.Layouts.{bit_number, side_bit, is_x2}
use Rattle.simulation.proofs.Plans.{Plan}
use Rattle.simulation.proofs.Simulates.{Simulates, phase_is, bit_shown}
use Rattle.simulation.proofs.EveryCall.{CallSimulated, stays, goes, came, sound}

-- a state that simulates a machine means what the machine means
one_bit : (b : Bool) → is_one (bit_number b) ≡ b
one_bit b = grind arith

bit_low : (b : Bool) → bit_number b ≤ 1
bit_low b = grind arith

side_low : (o : Option Bool) → side_of (side_bit o) ≤ 1
side_low o = grind arith

stage_is : (a : Stance) → stage_of (phase a) (is_x2 a) (side_bit (side a)) ≡ stage a
stage_is a = grind arith

idle_stage : (a : Stance) → T (at P.I a) → resting ≡ stage a
idle_stage a h = grind arith

rest_change : (m : Meaning) (i : ℕ) → Change m m i
rest_change m i = record { goes = rests; frame = λ k ne. refl }

module _ {At : Type 0} {door : Table At} {plan : Plan door} where
  arm_meant : (s : State At) (g : Machine) (mir : Simulates plan s g) (k : ℕ) → 1 ≤ k → k ≤ s.n → stage_of (phase_at door s k) (door.turned (arm_at door s k).position) (arm_at door s k).side ≡ stage (g.arms k)
  arm_meant s g mir k lo hi =
      let h = mir.shows k lo hi in rw (phase_is s g mir k lo hi, h.stands, h.sided, plan.turned (g.arms k)) (stage_is (g.arms k))

  pub arms_meant : (s : State At) (g : Machine) → Simulates plan s g → Inv g → (k : ℕ) → (meaning_of door s).arms k ≡ stage (g.arms k)
  arms_meant s g mir inv k =
      by (λ x. x ≡ stage (g.arms k)) (is_arm s k) (stage_of (phase_at door s k) (door.turned (arm_at door s k).position) (arm_at door s k).side) resting
      (λ t. let r = arm_in s k t in arm_meant s g mir k r.0 r.1)
      (λ d. ⊎_elim (idle_stage (g.arms k))
      (λ a. let r = inv.awake k a in absurd (clash (is_arm s k) (arm_is s k r.0 (let z = mir.size in let y = r.1 in omega arith)) d))
      (test (at P.I (g.arms k))))

  meant : (s : State At) (g : Machine) → Simulates plan s g → Inv g → 1 ≤ s.n → meaning_of door s ≡ meaning g
  meant s g mir inv some = λ i. record { bit = (ap is_one (bit_shown s g mir some) ∙ one_bit g.group) i; arms = λ k. arms_meant s g mir inv k i }

  call_change : (s : State At) (g : Machine) → Simulates plan s g → Inv g → 1 ≤ s.n → (c : Call) → CallSimulated plan g s c → Change (meaning_of door s) (meaning_of door (after door s c)) (arm_of c)
  call_change s g mir inv some c (stays mir' _ _) = rw (meant s g mir inv some, meant (after door s c) g mir' inv (let x = mir.size in let y = mir'.size in omega arith)) (rest_change (meaning g) (arm_of c))
  call_change s g mir inv some c (goes m i lo hi k mir' _ _ e) =
      rw (meant s g mir inv some, meant (after door s c) (moved g m i) mir' (inv_moved g inv m i lo hi) (let x = mir.size in let y = mir'.size in omega arith), sym e) (move_change g inv m i)

-- a gate with no arms stays as it is
stands_still : {At : Type 0} (door : Table At) (s : State At) (c : Call) → s.n ≡ 0 → after door s c ≡ s
stands_still door s c e = grind (arith, nat_tests)

module _ {At : Type 0} {door : Table At} (plan : Plan door) where
  pub phased_by : Phased door
  phased_by = record {
    idle = ap door.phase (sym (plan.at_rest false)) ∙ plan.phased (idle false);
    entry = ap door.phase (plan.at_entry (idle false) tt) ∙ plan.phased (d1 false);
    exit = ap door.phase (plan.at_exit (inside false true) tt) ∙ plan.phased (x1 false);
  }

  module _ (making : Making) (past : List Call) where
    abbrev now : State At
    now = run door (made door making) past

    change : (c : Call) → Change (meaning_of door now) (meaning_of door (after door now c)) (arm_of c)
    change c = ⊎_elim
        (λ z. rw (stands_still door now c z) (rest_change (meaning_of door now) (arm_of c)))
        (λ ne. let h = sound plan making past (omega arith) in call_change now h.machine h.simulates h.keeps (omega arith) c (came now h.machine h.simulates h.keeps c))
        (cases_eq now.n 0)

    bit_low_now : bit_of now ≤ 1
    bit_low_now = ⊎_elim
        (λ z. grind (arith, nat_tests))
        (λ ne. let h = sound plan making past (omega arith) in rw (bit_shown now h.machine h.simulates (omega arith)) (bit_low h.machine.group))
        (cases_eq now.n 0)

    sides_low : (i : ℕ) → T (is_arm now i) → side_of (arm_at door now i).side ≤ 1
    sides_low i t =
        let r = arm_in now i t in
        let h = sound plan making past (let lo = r.0 in let hi = r.1 in omega arith) in
        rw (h.simulates.shows i r.0 r.1).sided (side_low (side (h.machine.arms i)))

  pub rules_by : ShowsRules door
  rules_by making past c = keeps_of _ _ _ (change making past c)

  pub bits_by : ShowsBits door
  bits_by making past = record { bit = bit_low_now making past; sides = sides_low making past }
