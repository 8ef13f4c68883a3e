-- A sum over the arms 1 to n.
use Rattle.std.proofs.Common.{ℕ, zero, suc, ◌+◌, ◌≤◌, ◌≢◌, subst, ⊎_elim, arith}
use Rattle.std.proofs.lemmas.Bool.{cases_eq}

abbrev pub total : (ℕ → ℕ) → ℕ → ℕ
total f zero = 0
total f (suc n) = total f n + f (suc n)

pub total_le : (f h : ℕ → ℕ) (n : ℕ) → ((k : ℕ) → f k ≤ h k) → total f n ≤ total h n
total_le f h zero le = omega arith
total_le f h (suc n) le = let x = total_le f h n le in let y = le (suc n) in omega arith

pub total_drop : (f h : ℕ → ℕ) (n c i : ℕ) → ((k : ℕ) → f k ≤ h k) → 1 ≤ i → i ≤ n → f i + c ≤ h i → total f n + c ≤ total h n
total_drop f h zero c i le lo hi d = absurd (omega arith)
total_drop f h (suc n) c i le lo hi d = ⊎_elim
    (λ e. let x = total_le f h n le in let y : f (suc n) + c ≤ h (suc n) = subst (λ z. f z + c ≤ h z) e d in omega arith)
    (λ ne. let ne' : i ≢ suc n = ne in let x = total_drop f h n c i le lo (omega arith) d in let y = le (suc n) in omega arith)
    (cases_eq i (suc n))
