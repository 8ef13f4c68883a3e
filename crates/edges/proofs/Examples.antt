-- Three lists of calls at the three-bit door, computed.
use Rattle.std.proofs.Common.{◌≡◌, ℕ, true, false, List, [], ◌∷◌, ◌++◌, get_or, replicate, refl}
use Rattle.bank.specs.Lent.{unlogged}
use Rattle.gate_model.specs.Making.{largest}
use Rattle.gate_model.specs.States.{State, made, arm_at, phase_at}
use Rattle.gate_model.specs.Calls.{run, has_way}
use Rattle.gate_model.specs.History.{bit_read, entries_since, idle_then, lost_to}
use Rattle.gate_model.specs.declared.call.Call.{Call}
use Rattle.gate_model.specs.declared.call.Call.TheVariants.{Begin as begin, Step as step, Admit as admit, Leave as leave}
use Rattle.gate_model.specs.declared.phase.Phase.TheVariants as P
use Rattle.three_bits.specs.Positions.{three_bits}
use Rattle.three_bits.specs.declared.position.ThreeBits.{ThreeBits}

abbrev steps_of : ℕ → ℕ → List Call
steps_of i k = replicate k (step i)

-- arm 1 goes inside while arm 2 waits, leaves, and is idle again
abbrev first : State ThreeBits
first = made three_bits (record { memory = unlogged 0; high = 1; number = 0; wanted = 2; regs = replicate 9 1 })

abbrev one_past : List Call
one_past = begin 1 ∷ [] ++ steps_of 1 5 ++ (begin 2 ∷ []) ++ steps_of 2 5 ++ steps_of 1 6 ++ (admit 1 ∷ leave 0 1 ∷ []) ++ steps_of 1 3

-- the bit turned; 2 still waits, read the bit 0, was passed once, and has right of way
after_one_past : (get_or (run three_bits first one_past).regs 0 0 ≡ 1) × (phase_at three_bits (run three_bits first one_past) 2 ≡ P.W) × (bit_read three_bits 2 first one_past ≡ 0)
    × (entries_since three_bits 2 1 first one_past ≡ 1) × (has_way three_bits (run three_bits first one_past) 2 ≡ true)
unfolding largest
after_one_past = (refl, refl, refl, refl, refl)

-- arm 2 goes inside twice while arm 1 waits
abbrev second : State ThreeBits
second = made three_bits (record { memory = unlogged 0; high = 255; number = 7; wanted = 3; regs = replicate 10 9 })

abbrev two_past : List Call
two_past = begin 2 ∷ begin 3 ∷ [] ++ steps_of 2 5 ++ steps_of 3 5 ++ steps_of 3 9 ++ (admit 3 ∷ leave 7 3 ∷ []) ++ steps_of 3 2 ++ (begin 1 ∷ []) ++ steps_of 1 5 ++ steps_of 2 1
    ++ (admit 2 ∷ leave 7 2 ∷ []) ++ steps_of 2 2 ++ (begin 2 ∷ []) ++ steps_of 2 5 ++ steps_of 2 15

-- 1 read the bit 1, was passed twice, and its row says so; when it ended its doorway 2 was not idle, and 3 was
after_two_past : (bit_read three_bits 1 second two_past ≡ 1) × (entries_since three_bits 1 2 second two_past ≡ 2) × (get_or (arm_at three_bits (run three_bits second two_past) 1).row 1 0 ≡ 2)
    × (idle_then three_bits 1 2 second two_past ≡ false) × (idle_then three_bits 1 3 second two_past ≡ true)
unfolding largest
after_two_past = (refl, refl, refl, refl, refl)

-- arms 1 and 2 wait, 1 goes inside and then 2, and both leave
abbrev both_past : List Call
both_past = begin 1 ∷ [] ++ steps_of 1 5 ++ (begin 2 ∷ []) ++ steps_of 2 5 ++ steps_of 1 6 ++ steps_of 2 6
    ++ (admit 1 ∷ leave 0 1 ∷ []) ++ steps_of 1 2 ++ (admit 2 ∷ leave 0 2 ∷ []) ++ steps_of 2 2

-- 2 went inside since 1 ended its doorway, but 1 was inside by then and lost nothing; 2 lost to 1, and its row says so
after_both_past : (entries_since three_bits 1 2 first both_past ≡ 1) × (lost_to three_bits 1 2 first both_past ≡ 0) × (lost_to three_bits 2 1 first both_past ≡ 1)
    × (get_or (arm_at three_bits (run three_bits first both_past) 2).row 0 0 ≡ 1)
unfolding largest
after_both_past = (refl, refl, refl, refl)
