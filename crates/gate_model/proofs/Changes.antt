-- The rules put together: what a call can do to its arm and the bit.
use Rattle.std.proofs.Common.{◌≡◌, ℕ, Bool, not, ◌&&◌, ◌≢◌, sym, refl, subst, arith}
use Rattle.gate_model.specs.Meaning.{Stage, resting, coming, read, waiting, inside, leaving, turned, at, Meaning}
use Rattle.gate_model.specs.Rules as R
use Rattle.gate_model.specs.Rules.{Follows, Free, Keeps}
use Rattle.gate_model.specs.declared.phase.Phase.TheVariants as P

pub data Goes (bit : Bool) (arms : ℕ → Stage) : Stage → Stage → Bool → Type 0 where
  rests : {a : Stage} → Goes bit arms a a bit
  begins : Goes bit arms resting coming bit
  reads : Goes bit arms coming (read bit) bit
  ends : {t : Bool} → Goes bit arms (read t) (waiting t) bit
  enters : {t : Bool} → Free bit arms t → Goes bit arms (waiting t) (inside t) bit
  leaves : {t : Bool} → Goes bit arms (inside t) (leaving t) bit
  turns : {t : Bool} → Goes bit arms (leaving t) (turned t) (not t)
  quits : {t : Bool} → Goes bit arms (turned t) resting bit

-- a call of arm i
pub record Change (m m' : Meaning) (i : ℕ) : Type 0 where
  pub goes : Goes m.bit m.arms (m.arms i) (m'.arms i) m'.bit
  pub frame : (k : ℕ) → k ≢ i → m'.arms k ≡ m.arms k

-- arm w ends its doorway; arm b goes inside
abbrev pub ends_doorway : ℕ → Meaning → Meaning → Bool
ends_doorway w m m' = at P.D (m.arms w) && at P.W (m'.arms w)

abbrev pub goes_inside : ℕ → Meaning → Meaning → Bool
goes_inside b m m' = at P.W (m.arms b) && at P.F (m'.arms b)

-- what the rules say of the arm's stage a before a call and a' after it, as one change
module _ (bit bit' : Bool) (arms : ℕ → Stage) where
  put : (a a' : Stage) → Follows a a'
      → ((t : Bool) → a ≡ coming → a' ≡ read t → t ≡ bit)
      → ((t : Bool) → a ≡ waiting t → a' ≡ inside t → Free bit arms t)
      → ((t : Bool) → (a ≡ leaving t) × (a' ≡ turned t) → bit' ≡ not t)
      → (((t : Bool) → ¬ ((a ≡ leaving t) × (a' ≡ turned t))) → bit' ≡ bit)
      → Goes bit arms a a' bit'
  put a a' R.stays side free exit stay = subst (Goes bit arms a a') (sym (stay (λ t h. grind arith))) rests
  put a a' R.begins side free exit stay = subst (Goes bit arms a a') (sym (stay (λ t h. grind arith))) begins
  put a a' (R.reads {t = t}) side free exit stay =
      subst (λ s. Goes bit arms a (read s) bit') (sym (side t refl refl)) (subst (Goes bit arms a (read bit)) (sym (stay (λ u h. grind arith))) reads)
  put a a' R.ends side free exit stay = subst (Goes bit arms a a') (sym (stay (λ t h. grind arith))) ends
  put a a' (R.enters {t = t}) side free exit stay = subst (Goes bit arms a a') (sym (stay (λ t h. grind arith))) (enters (free t refl refl))
  put a a' R.leaves side free exit stay = subst (Goes bit arms a a') (sym (stay (λ t h. grind arith))) leaves
  put a a' (R.turns {t = t}) side free exit stay = subst (Goes bit arms a a') (sym (exit t (refl, refl))) turns
  put a a' R.quits side free exit stay = subst (Goes bit arms a a') (sym (stay (λ t h. grind arith))) quits

pub change_of : (m m' : Meaning) (i : ℕ) → Keeps m m' i → Change m m' i
change_of m m' i k = record {
  goes = put m.bit m'.bit m.arms (m.arms i) (m'.arms i) k.in_order k.side_is_the_bit k.enters_free k.only_exit_turns.0 k.only_exit_turns.1;
  frame = k.own_arm_only;
}

-- and the rules from such a change
module _ (bit : Bool) (arms : ℕ → Stage) where
  follows : (a a' : Stage) (b' : Bool) → Goes bit arms a a' b' → Follows a a'
  follows a a' b' rests = R.stays
  follows a a' b' begins = R.begins
  follows a a' b' reads = R.reads
  follows a a' b' ends = R.ends
  follows a a' b' (enters f) = R.enters
  follows a a' b' leaves = R.leaves
  follows a a' b' turns = R.turns
  follows a a' b' quits = R.quits

  side_read : (a a' : Stage) (b' : Bool) → Goes bit arms a a' b' → (t : Bool) → a ≡ coming → a' ≡ read t → t ≡ bit
  side_read a a' b' g t e e' = grind arith

  free_then : (a a' : Stage) (b' : Bool) → Goes bit arms a a' b' → (t : Bool) → a ≡ waiting t → a' ≡ inside t → Free bit arms t
  free_then a a' b' (enters {t = u} f) t e e' = subst (Free bit arms) (let x : u ≡ t = grind arith in x) f
  free_then a a' b' g t e e' = absurd (grind arith)

  turns_so : (a a' : Stage) (b' : Bool) → Goes bit arms a a' b' → (t : Bool) → (a ≡ leaving t) × (a' ≡ turned t) → b' ≡ not t
  turns_so a a' b' g t h = grind arith

  else_same : (a a' : Stage) (b' : Bool) → Goes bit arms a a' b' → ((t : Bool) → ¬ ((a ≡ leaving t) × (a' ≡ turned t))) → b' ≡ bit
  else_same a a' b' (turns {t = t}) none = absurd (none t (refl, refl))
  else_same a a' b' g none = refl

pub keeps_of : (m m' : Meaning) (i : ℕ) → Change m m' i → Keeps m m' i
keeps_of m m' i c = record {
  own_arm_only = c.frame;
  in_order = follows m.bit m.arms (m.arms i) (m'.arms i) m'.bit c.goes;
  side_is_the_bit = side_read m.bit m.arms (m.arms i) (m'.arms i) m'.bit c.goes;
  enters_free = free_then m.bit m.arms (m.arms i) (m'.arms i) m'.bit c.goes;
  only_exit_turns = (turns_so m.bit m.arms (m.arms i) (m'.arms i) m'.bit c.goes, else_same m.bit m.arms (m.arms i) (m'.arms i) m'.bit c.goes);
}
