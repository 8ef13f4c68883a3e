-- Lists that a comparison of their first n values finds equal.
use Rattle.std.proofs.Common.{◌≡◌, ℕ, ◌<◌, ◌≤◌, ◌↔◌, Bool, false, IsTrue, List, take, length, get_or, eqb, sym, ap, ◌∙◌, arith}
use Rattle.std.specs.Bool.{Decides}
use Rattle.std.specs.Cmp.{booleans_Decides, unsigned_Decides}
use Rattle.std.proofs.lemmas.Slice.Eq.{slice_eq-Decides}
use Rattle.std.proofs.lemmas.List.{get_or-take}
use Rattle.std.proofs.Math.Bool.{beq}
use lib.Pointwise.{pointwise}
use Rattle.gate_model.specs.Limits.{arm_limit}
use Rattle.gate_model.proofs.SameGates.{same_take}

module _ {X : Type 0} {E : X → X → Bool} (decides : (x y : X) → Decides (E x y) (x ≡ y)) (d : X) where
  first_equal : (n : ℕ) (xs ys : List X) (r : Bool) → n ≤ arm_limit → length xs ≡ arm_limit → length ys ≡ arm_limit → r ≡ pointwise E (take n xs) (take n ys)
      → IsTrue r ↔ ((k : ℕ) → k < n → get_or xs k d ≡ get_or ys k d)
  first_equal n xs ys r few long other is =
      let whole = slice_eq-Decides decides (take n xs) (take n ys) r is in (
        λ t k l. sym (get_or-take n xs k d l) ∙ (ap (λ zs. get_or zs k d) (whole.0 t) ∙ get_or-take n ys k d l),
        λ h. whole.1 (sym (same_take n xs ys d (omega (arith, few, long)) (omega (arith, few, other)) h)),
      )

pub counts_equal : (n : ℕ) (xs ys : List ℕ) (r : Bool) → n ≤ arm_limit → length xs ≡ arm_limit → length ys ≡ arm_limit → r ≡ pointwise eqb (take n xs) (take n ys)
    → IsTrue r ↔ ((k : ℕ) → k < n → get_or xs k 0 ≡ get_or ys k 0)
counts_equal = first_equal unsigned_Decides 0

pub notes_equal : (n : ℕ) (xs ys : List Bool) (r : Bool) → n ≤ arm_limit → length xs ≡ arm_limit → length ys ≡ arm_limit → r ≡ pointwise beq (take n xs) (take n ys)
    → IsTrue r ↔ ((k : ℕ) → k < n → get_or xs k false ≡ get_or ys k false)
notes_equal = first_equal booleans_Decides false
