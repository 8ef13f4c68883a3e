-- The plan of the three-bit door.
use Rattle.std.proofs.Common.{◌≡◌, ℕ, ◌+◌, ◌*◌, ◌<◌, Bool, false, T, refl, arith}
use Rattle.machine.specs.Kinds as K
use Rattle.machine.proofs.Machine.{Stance, idle, d1, d2, d3, d4, d5, waits, inside, x1, x2, phase, step_arm, visit, begin, admit, leave, may_step}
use Rattle.simulation.proofs.Layouts.{side_number, is_d2, is_x2, looks_at, cell, holds, deed, access_for, read_by_deed}
use Rattle.simulation.proofs.Plans.{Plan}
use Rattle.three_bits.specs.declared.position.Doorway.TheVariants.{D1, D2, D3, D4, D5}
use Rattle.three_bits.specs.declared.position.Place.{Place}
use Rattle.three_bits.specs.declared.position.Place.TheVariants.{W1, W2, W3, W4, W5, W6}
use Rattle.three_bits.specs.declared.position.Exit.TheVariants.{X1, X2}
use Rattle.three_bits.specs.declared.position.ThreeBits.{ThreeBits}
use Rattle.three_bits.specs.declared.position.ThreeBits.TheVariants.{Idle, Doorway, Waiting, Inside, Leaving}
use Rattle.three_bits.specs.Positions.{three_bits, phase_of, reads as reads_here, is_turned as turned_here, index_of, access_of, next_of}

-- where a stance stands
abbrev place_of : K.WaitingPlace → Place
place_of K.W1 = W1
place_of K.W2 = W2
place_of K.W3 = W3
place_of K.W4 = W4
place_of K.W5 = W5
place_of K.W6 = W6

abbrev place : Stance → ThreeBits
place (idle g) = Idle
place (d1 g) = Doorway D1
place (d2 g) = Doorway D2
place (d3 s g) = Doorway D3
place (d4 s) = Doorway D4
place (d5 s) = Doorway D5
place (waits s j p) = Waiting j (place_of p)
place (inside s o) = Inside
place (x1 s) = Leaving X1
place (x2 s) = Leaving X2

-- the table
accesses : (i : ℕ) (a : Stance) → access_of i (side_number a) (place a) ≡ access_for K.three_bits (deed K.three_bits a) i
accesses i a = grind arith

leads : (n : ℕ) (β : Bool) (arms : ℕ → Stance) (a : Stance) → T (may_step a) → next_of n (side_number a) (read_by_deed K.three_bits β arms (deed K.three_bits a)) (place a) ≡ place (step_arm K.three_bits n β arms a)
leads n β arms a k = grind arith

pub plan : Plan three_bits
plan = record {
  kind = K.three_bits;
  place = place;
  phased = λ a. (let x : phase_of (place a) ≡ phase a = grind arith in x);
  at_rest = λ x. refl;
  at_entry = λ a k. (let x : Doorway D1 ≡ place (visit begin a) = grind arith in x);
  at_pass = λ a. (let x : place a ≡ place (visit admit a) = grind arith in x);
  at_exit = λ a k. (let x : Leaving X1 ≡ place (visit leave a) = grind arith in x);
  reads = λ a. (let x : reads_here (place a) ≡ is_d2 a = grind arith in x);
  turned = λ a. (let x : turned_here (place a) ≡ is_x2 a = grind arith in x);
  indexed = λ a. (let x : index_of (place a) ≡ looks_at a = grind arith in x);
  accesses = accesses;
  leads = leads;
  within = λ n c k cl kl kh. (let x : cell K.three_bits c k < 3 * n + 1 = grind arith in x);
  high_enough = omega arith;
  some_room = λ n. omega arith;
  first_bit = refl;
  first_cells = λ c k cl kl. (let x : ◌≡◌ {A = ℕ} 0 (holds K.three_bits c (idle false)) = grind arith in x);
  soon_enough = λ n. omega arith;
  rounds_few = λ n. omega arith;
}
