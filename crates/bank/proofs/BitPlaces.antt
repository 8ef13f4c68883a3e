-- Each register has a place of its own, and each bit of the words is the place of one.
use Rattle.std.proofs.Common.{◌≡◌, ℕ, ◌+◌, ◌*◌, ◌<◌, sym, subst, ap, ap₂, arith}
use Rattle.bank.specs.Bits.{bit_registers, word_bits, place_of, InWords, OwnPlaces}
use Rattle.bank.specs.declared.bit_place.BitPlace.{BitPlace}

-- a place is its word and its bit
pub same_bit_place : (p q : BitPlace) → p.word ≡ q.word → p.bit ≡ q.bit → p ≡ q
same_bit_place p q w b = ap₂ (λ w b. record { word = w; bit = b }) w b

apart : (i j : ℕ) → place_of i ≡ place_of j → i ≡ j
unfolding place_of
apart i j e = omega (arith, ap (λ p. p.word) e, ap (λ p. p.bit) e)

within : (i : ℕ) → i < bit_registers → InWords (place_of i)
unfolding place_of
within i h = (omega arith, omega (arith, h))

whole : (p : BitPlace) → InWords p → (i : ℕ) × (i < bit_registers) × (place_of i ≡ p)
unfolding place_of
whole p h =
    let i : ℕ = p.word * word_bits + p.bit in
    (i, omega (arith, h.0, h.1), same_bit_place (place_of i) p (omega (arith, h.1)) (omega (arith, h.1)))

pub own_places : OwnPlaces
own_places = record { apart = apart; within = within; whole = whole }

pub in_words : (i : ℕ) (p : BitPlace) → p ≡ place_of i → i < bit_registers → InWords p
in_words i p e h = subst InWords (sym e) (within i h)
