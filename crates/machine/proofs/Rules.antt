-- The machine shows the three rules: every move of it is a change of its meaning.
use Rattle.std.proofs.Common.{ℕ, Bool, true, not, T, sym, ap, subst, arith}
use Rattle.gate_model.specs.Meaning.{Stage, resting, coming, read, waiting, inside as within, leaving, turned, has as stage_has, Meaning}
use Rattle.gate_model.proofs.Changes.{Goes, rests, begins, reads, ends, enters, leaves, turns, quits, Change}
use Rattle.machine.specs.Kinds.{Kind, three_bits, four_valued}
use Rattle.machine.proofs.Machine.{Stance, idle, d1, d2, d3, d4, d5, waits, inside, x1, x2, has, outcome, Move, begin, step, admit, leave, act, turn, with_stance_same, with_stance_other, Machine, moved}
use Rattle.machine.proofs.Invariant.{Own, Inv, Ranged, wait_own}

abbrev pub stage : Stance → Stage
stage (idle g) = resting
stage (d1 g) = coming
stage (d2 g) = coming
stage (d3 s g) = read s
stage (d4 s) = read s
stage (d5 s) = read s
stage (waits s j p) = waiting s
stage (inside s o) = within s
stage (x1 s) = leaving s
stage (x2 s) = turned s

abbrev pub meaning : Machine → Meaning
meaning g = record { bit = g.group; arms = λ k. stage (g.arms k) }

-- the side of its stage is the arm's
stage_side : (a : Stance) (t : Bool) → T (stage_has t (stage a)) → T (has t a)
stage_side a t h = grind arith

module _ (n : ℕ) (β : Bool) (arms : ℕ → Stance) (range : Ranged n arms) where
  act_goes : (m : Move) (δ : Kind) (a : Stance) → Own n β arms a → Goes β (λ k. stage (arms k)) (stage a) (stage (act m δ n β arms a)) (turn m β a)
  act_goes begin δ (idle g) o = begins
  act_goes step three_bits (d2 g) o = reads
  act_goes step four_valued (d2 g) o = reads
  act_goes step four_valued (d3 s g) o = ends
  act_goes step four_valued (d4 s) o = ends
  act_goes step δ (d5 s) o = ends
  act_goes step δ (waits s j p) o = outcome (λ r. Own n β arms r → Goes β (λ k. stage (arms k)) (waiting s) (stage r) β) δ n β (arms j) s
      (λ j p h. rests) (λ free. enters (λ k h. free k (stage_side (arms k) (not s) h))) j p (wait_own n β arms range δ s j p o)
  act_goes step δ (x1 s) o = turns
  act_goes step δ (x2 s) o = quits
  act_goes admit δ (inside s x) o = rests
  act_goes leave δ (inside s true) o = leaves
  act_goes m δ a o = rests

pub move_change : (g : Machine) → Inv g → (m : Move) (i : ℕ) → Change (meaning g) (meaning (moved g m i)) i
move_change g inv m i = record {
  goes = subst (λ y. Goes g.group (λ k. stage (g.arms k)) (stage (g.arms i)) (stage y) (turn m g.group (g.arms i))) (sym (with_stance_same g.arms i _))
      (act_goes g.n g.group g.arms inv.range m g.kind (g.arms i) (inv.own i));
  frame = λ k ne. ap stage (with_stance_other g.arms i _ k ne);
}
