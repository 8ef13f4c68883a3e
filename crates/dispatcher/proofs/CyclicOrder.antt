-- The first arm not idle in cyclic order: none that is not idle is passed over.
use Rattle.std.proofs.Common.{◌≡◌, ℕ, zero, suc, ◌+◌, ◌-◌, ◌<◌, ◌≤◌, Bool, cond, ltb, T, ◌⊎◌, inl, inr, List, [], ◌∷◌, ◌++◌, append-nil, Some, sym, refl, ap, ⊎_elim, ◌∙◌, arith}
use Rattle.std.proofs.lemmas.Bool.{cases_lt}
use Rattle.std.proofs.lemmas.Bool.Decides.{nat_tests}
use Rattle.std.specs.List.{find, range_with_len}
use Rattle.gate_model.proofs.Bools.{test}
use Rattle.dispatcher.specs.Moves.{in_turn}

-- how many places after the one served last an arm of n comes, around the end: 1 to n
abbrev pub places_ahead : ℕ → ℕ → ℕ → ℕ
places_ahead n last b = cond (ltb last b) (b - last) (n + b - last)

-- what is found passes the test
pub found_yes : (p : ℕ → Bool) (xs : List ℕ) (c : ℕ) → find p xs ≡ Some c → T (p c)
found_yes p [] c e = grind arith
found_yes p (x ∷ xs) c e = let more = found_yes p xs c in grind arith

-- the first number of a range that passes the test is found, whatever follows the range; or none of the range passes
pub first_part : (p : ℕ → Bool) (a k : ℕ) (rest : List ℕ)
    → ((c : ℕ) × (find p (range_with_len a k ++ rest) ≡ Some c) × (a ≤ c) × (c < a + k) × ((b : ℕ) → a ≤ b → T (p b) → c ≤ b))
    ⊎ ((find p (range_with_len a k ++ rest) ≡ find p rest) × ((b : ℕ) → a ≤ b → T (p b) → a + k ≤ b))
first_part p a zero rest = inr (refl, λ b lo h. omega (arith, lo))
first_part p a (suc k) rest = elim (test (p a)) [
  | inl y ↦ inl (a, grind arith, omega arith, omega arith, λ b lo h. lo)
  | inr n ↦
      (let past : (b : ℕ) → a ≤ b → T (p b) → a + 1 ≤ b = λ b lo h. (let ne : a ≡ b → ⊥ = λ e. grind arith in omega (arith, lo, ne)) in
      elim (first_part p (a + 1) k rest) [
        | inl f ↦ inl (f.0, grind arith, omega (arith, f.2), omega (arith, f.3), λ b lo h. f.4 b (past b lo h) h)
        | inr e ↦ inr (grind (arith, e.0), λ b lo h. let more = e.1 b (past b lo h) h in omega (arith, more))
      ])
]

-- where c comes no later than b in cyclic order: c is b, or b is fewer places ahead of c than of the one served last; in three cases
nearer_low : (n last b c : ℕ) → last < c → c ≤ b → (c ≡ b) ⊎ (places_ahead n c b < places_ahead n last b)
nearer_low n last b c lo hi = grind (arith, nat_tests)

nearer_high : (n last b c : ℕ) → b ≤ last → last < c → c ≤ n → 1 ≤ b → places_ahead n c b < places_ahead n last b
nearer_high n last b c low lo hi some = grind (arith, nat_tests)

nearer_round : (n last b c : ℕ) → last ≤ n → b ≤ last → 1 ≤ c → c ≤ b → (c ≡ b) ⊎ (places_ahead n c b < places_ahead n last b)
nearer_round n last b c within low lo hi = grind (arith, nat_tests)

-- an arm that passes the test is found, or another that comes before it
pub in_line_found : (p : ℕ → Bool) (n last b : ℕ) → last ≤ n → 1 ≤ b → b ≤ n → T (p b)
    → (c : ℕ) × (find p (in_turn n last) ≡ Some c) × ((c ≡ b) ⊎ (places_ahead n c b < places_ahead n last b))
in_line_found p n last b within lo hi h = elim (first_part p (last + 1) (n - last) (range_with_len 1 last)) [
  | inl f ↦ (
    f.0,
    f.1,
    ⊎_elim
        (λ low. nearer_low n last b f.0 (omega (arith, f.2)) (f.4 b (omega (arith, low)) h))
        (λ high. inr (nearer_high n last b f.0 high (omega (arith, f.2)) (omega (arith, f.3)) lo))
        (cases_lt last b),
  )
  | inr e ↦ elim (first_part p 1 last []) [
    | inl f ↦ (
      f.0,
      e.0 ∙ ap (find p) (sym (append-nil _)) ∙ f.1,
      nearer_round n last b f.0 within
          (⊎_elim (λ low. absurd (omega (arith, within, e.1 b (omega (arith, low)) h))) (λ high. high) (cases_lt last b)) f.2 (f.4 b lo h),
    )
    | inr none ↦ absurd (omega (arith, within, e.1 b (omega (arith, none.1 b lo h)) h))
  ]
]

-- every arm is at least one place ahead, and at most n
pub ahead_few : (n last b : ℕ) → last ≤ n → b ≤ n → 1 ≤ b → (1 ≤ places_ahead n last b) × (places_ahead n last b ≤ n)
ahead_few n last b within hi lo = grind (arith, nat_tests)
