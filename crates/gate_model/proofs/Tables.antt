-- A table of records that is changed record by record.
use Rattle.std.proofs.Common.{◌≡◌, ℕ, zero, suc, ◌<◌, ◌≤◌, true, leb, List, [], ◌∷◌, map, length, get_or, sym, ap, ◌∙◌, ⊎_elim, arith}
use Rattle.std.proofs.lemmas.Bool.Decides.{nat_tests}
use Rattle.std.proofs.lemmas.List.{ext_get_or, get_or-map, length-map}
use Rattle.gate_model.specs.Table.{Table}
use Rattle.gate_model.specs.Phases.{same_phase}
use Rattle.gate_model.specs.Tallies.{counted, is_idle, row_started, tallied}
use Rattle.gate_model.specs.declared.arm.Arm.{Arm}
use Rattle.gate_model.specs.declared.phase.Phase.{Phase}
use Rattle.gate_model.specs.declared.phase.Phase.TheVariants as P
use Rattle.gate_model.proofs.Bools.{test}

-- places that are each f of the old one are the whole map
pub map_from : {X Y : Type 0} (f : X → Y) (new : List Y) (old : List X) (d : X) (e : Y) → length new ≡ length old
    → ((j : ℕ) → j < length old → get_or new j e ≡ f (get_or old j d))
    → new ≡ map f old
map_from f new old d e l h =
    ext_get_or e new (map f old) (l ∙ sym (length-map old f))
    (λ j lt. let p : j < length old = omega (arith, l) in h j p ∙ sym (get_or-map f old j d e p))

-- the same, where the places below n are told apart from those past them
pub map_first : {X Y : Type 0} (f : X → Y) (n : ℕ) (new : List Y) (old : List X) (d : X) (e : Y) → length new ≡ length old
    → ((j : ℕ) → j < n → get_or new j e ≡ f (get_or old j d))
    → ((j : ℕ) → n ≤ j → j < length old → get_or new j e ≡ f (get_or old j d))
    → new ≡ map f old
map_first f n new old d e l below past =
    map_from f new old d e l
    (λ j h. ⊎_elim (λ t. past j (grind (arith, nat_tests)) h) (λ t. below j (grind (arith, nat_tests))) (test (leb n j)))

-- what f makes of a record it makes of each one of a table, and past the end there is none
pub kept_map : {X : Type 0} (R : X → X → Type 0) (f : X → X) (d : X) → R d d → ((x : X) → R (f x) x) → (xs : List X) (j : ℕ) → R (get_or (map f xs) j d) (get_or xs j d)
kept_map R f d past each [] j = past
kept_map R f d past each (x ∷ more) zero = each x
kept_map R f d past each (x ∷ more) (suc j) = kept_map R f d past each more j

-- what holds of each of the tables that a tally may leave holds of the one that it leaves
pub tallied_holds : {At : Type 0} (door : Table At) (P : List (Arm At) → Type 0) (k : ℕ) (p q : Phase) (arms : List (Arm At))
    → P arms → P (row_started door k arms) → P (map (counted door k) arms) → P (tallied door k p q arms)
tallied_holds door P k p q arms same started entered = grind arith

-- an idle record counts no entry
module _ {At : Type 0} (door : Table At) where
  pub idle_is : (a : Arm At) → door.phase a.position ≡ P.I → is_idle door a ≡ true
  idle_is a e = ap (λ p. same_phase p P.I) e

  pub idle_uncounted : (b : ℕ) (a : Arm At) → door.phase a.position ≡ P.I → counted door b a ≡ a
  idle_uncounted b a e = grind arith
