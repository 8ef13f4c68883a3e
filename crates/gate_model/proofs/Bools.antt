-- Tests on bits, and what they say.
use Rattle.std.proofs.Common.{◌≡◌, ℕ, Bool, true, false, cond, not, ◌&&◌, ◌||◌, T, eqb, ◌≢◌, ◌⊎◌, inl, inr, arith}
use Rattle.std.proofs.lemmas.Bool.Decides.{nat_tests}
pub use Rattle.gate_model.specs.Meaning.{same_bit}

pub same_refl : (a : Bool) → T (same_bit a a)
same_refl a = grind arith

pub same_sym : (a b : Bool) → T (same_bit a b) → T (same_bit b a)
same_sym a b h = grind arith

pub same_trans : (a b c : Bool) → T (same_bit a b) → T (same_bit b c) → T (same_bit a c)
same_trans a b c h k = grind arith

pub same_path : (a b : Bool) → T (same_bit a b) → a ≡ b
same_path a b h = grind arith

pub opposite : (a b : Bool) → T (same_bit a b) → T (same_bit (not b) a) → ⊥
opposite a b h k = grind arith

pub differ : (a b : Bool) → T (not (same_bit a b)) → T (same_bit a (not b))
differ a b h = grind arith

pub test : (b : Bool) → T b ⊎ T (not b)
test true = inl tt
test false = inr tt

pub clash : (b : Bool) → T b → T (not b) → ⊥
clash b x y = grind arith

pub none_of : (b : Bool) → (T b → ⊥) → T (not b)
none_of b f = grind arith

pub and_T : (a b : Bool) → T (a && b) → T a × T b
and_T a b h = grind arith

pub T_and : (a b : Bool) → T a → T b → T (a && b)
T_and a b h k = grind arith

pub or_T : (a b : Bool) → T (a || b) → T a ⊎ T b
or_T a b h = grind arith

pub T_or_left : (a b : Bool) → T a → T (a || b)
T_or_left a b h = grind arith

pub T_or_right : (a b : Bool) → T b → T (a || b)
T_or_right a b h = grind arith

-- cond by its test, with what the test says
pub by : {A : Type 0} (P : A → Type 0) (b : Bool) (x y : A) → (T b → P x) → (T (not b) → P y) → P (cond b x y)
by P true x y f g = f tt
by P false x y f g = g tt

pub is_true : (b : Bool) → T b → b ≡ true
is_true b h = grind arith

pub is_false : (b : Bool) → T (not b) → b ≡ false
is_false b h = grind arith

-- numbers
pub ne_test : (a b : ℕ) → T (not (eqb a b)) → a ≢ b
ne_test a b h e = grind (arith, nat_tests)

pub test_ne : (a b : ℕ) → a ≢ b → T (not (eqb a b))
test_ne a b ne = grind (arith, nat_tests)
