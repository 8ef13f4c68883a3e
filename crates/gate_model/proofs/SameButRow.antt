-- The tally leaves each record's position, side, mark and visits.
use Rattle.std.proofs.Common.{◌≡◌, ℕ, Bool, List, length, get_or, set, refl, arith}
use Rattle.std.proofs.lemmas.List.{length-set, length-map, get_or-set_same, get_or-set_other, set_past}
use Rattle.gate_model.specs.Table.{Table}
use Rattle.gate_model.specs.Arms.{no_arm}
use Rattle.gate_model.specs.Tallies.{with_row, counted, tallied}
use Rattle.gate_model.specs.declared.arm.Arm.{Arm}
use Rattle.gate_model.specs.declared.phase.Phase.{Phase}
use Rattle.gate_model.proofs.Tables.{kept_map, tallied_holds}

abbrev pub SameButRow : {At : Type 0} → Arm At → Arm At → Type 0
SameButRow a b = (a.position ≡ b.position) × (a.side ≡ b.side) × (a.out ≡ b.out) × (a.visits ≡ b.visits)

module _ {At : Type 0} (door : Table At) where
  row_seen : (r : List ℕ) (t : List Bool) (k : ℕ) (arms : List (Arm At)) (j : ℕ) → SameButRow (get_or (set arms k (with_row r t (get_or arms k (no_arm door)))) j (no_arm door)) (get_or arms j (no_arm door))
  row_seen r t k arms j = grind (arith, get_or-set_same, get_or-set_other, set_past)

  counted_seen : (b : ℕ) (a : Arm At) → SameButRow (counted door b a) a
  counted_seen b a = grind arith

  abbrev pub SameButRows : List (Arm At) → List (Arm At) → Type 0
  SameButRows new old = ((j : ℕ) → SameButRow (get_or new j (no_arm door)) (get_or old j (no_arm door))) × (length new ≡ length old)

  same_table : (arms : List (Arm At)) → SameButRows arms arms
  same_table arms = ((λ j. (refl, refl, refl, refl)), refl)

  pub row_table : (r : List ℕ) (t : List Bool) (k : ℕ) (arms : List (Arm At)) → SameButRows (set arms k (with_row r t (get_or arms k (no_arm door)))) arms
  row_table r t k arms = (row_seen r t k arms, length-set arms k _)

  pub tallied_table : (k : ℕ) (p q : Phase) (arms : List (Arm At)) → SameButRows (tallied door k p q arms) arms
  tallied_table k p q arms = tallied_holds door (λ rs. SameButRows rs arms) k p q arms (same_table arms) (row_table _ _ k arms)
      (kept_map SameButRow (counted door k) (no_arm door) (refl, refl, refl, refl) (counted_seen k) arms, length-map arms (counted door k))
