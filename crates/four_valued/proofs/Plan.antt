-- The plan of the four-valued door.
use Rattle.std.proofs.Common.{◌≡◌, ℕ, Bool, T, refl, arith}
use Rattle.std.proofs.lemmas.Bool.{cond-false, ne_eqb}
use Rattle.machine.specs.Kinds as K
use Rattle.machine.proofs.Machine.{Stance, idle, d1, d2, d3, d4, d5, waits, inside, x1, x2, phase, step_arm, visit, begin, admit, leave, may_step}
use Rattle.simulation.proofs.Layouts.{side_number, is_d2, is_x2, looks_at, deed, access_for, read_by_deed}
use Rattle.simulation.proofs.Plans.{Plan}
use Rattle.four_valued.specs.declared.position.Doorway.TheVariants.{Choose, Read, Tell}
use Rattle.four_valued.specs.declared.position.Place.{Place}
use Rattle.four_valued.specs.declared.position.Place.TheVariants as W
use Rattle.four_valued.specs.declared.position.Exit.TheVariants.{Turn, Rest}
use Rattle.four_valued.specs.declared.position.FourValued.{FourValued}
use Rattle.four_valued.specs.declared.position.FourValued.TheVariants.{Idle, Doorway, Waiting, Inside, Leaving}
use Rattle.four_valued.specs.Positions.{four_valued, phase_of, reads as reads_here, is_turned as turned_here, index_of, access_of, next_of}

-- where a stance stands; the machine's arms never come to d3, d4 and W6 at this door
abbrev place_of : K.WaitingPlace → Place
place_of K.W1 = W.Group
place_of K.W2 = W.Choosing
place_of K.W3 = W.Side
place_of K.W4 = W.SideAgain
place_of K.W5 = W.GroupAgain
place_of K.W6 = W.SideAgain

abbrev place : Stance → FourValued
place (idle g) = Idle
place (d1 g) = Doorway Choose
place (d2 g) = Doorway Read
place (d3 s g) = Doorway Tell
place (d4 s) = Doorway Tell
place (d5 s) = Doorway Tell
place (waits s j p) = Waiting j (place_of p)
place (inside s o) = Inside
place (x1 s) = Leaving Turn
place (x2 s) = Leaving Rest

-- the table
accesses : (i : ℕ) (a : Stance) → access_of i (side_number a) (place a) ≡ access_for K.four_valued (deed K.four_valued a) i
accesses i a = grind arith

leads : (n : ℕ) (β : Bool) (arms : ℕ → Stance) (a : Stance) → T (may_step a) → next_of n (side_number a) (read_by_deed K.four_valued β arms (deed K.four_valued a)) (place a) ≡ place (step_arm K.four_valued n β arms a)
leads n β arms (waits u j K.W1) k = grind arith
leads n β arms (waits u j p) k = grind arith
leads n β arms a k = grind arith

pub plan : Plan four_valued
plan = record {
  kind = K.four_valued;
  place = place;
  phased = λ a. (let x : phase_of (place a) ≡ phase a = grind arith in x);
  at_rest = λ x. refl;
  at_entry = λ a k. (let x : Doorway Choose ≡ place (visit begin a) = grind arith in x);
  at_pass = λ a. (let x : place a ≡ place (visit admit a) = grind arith in x);
  at_exit = λ a k. (let x : Leaving Turn ≡ place (visit leave a) = grind arith in x);
  reads = λ a. (let x : reads_here (place a) ≡ is_d2 a = grind arith in x);
  turned = λ a. (let x : turned_here (place a) ≡ is_x2 a = grind arith in x);
  indexed = λ a. (let x : index_of (place a) ≡ looks_at a = grind arith in x);
  accesses = accesses;
  leads = leads;
  within = λ n c k cl kl kh. omega arith;
  high_enough = omega arith;
  some_room = λ n. omega arith;
  first_bit = refl;
  first_cells = λ c k cl kl. cond-false _ 0 3 (ne_eqb k 0 (omega arith));
  soon_enough = λ n. omega arith;
  rounds_few = λ n. omega arith;
}
