-- A row that starts: the idle arms are noted in its record one after another.
use Rattle.std.proofs.Common.{◌≡◌, ℕ, zero, suc, ◌+◌, ◌<◌, ◌≤◌, Bool, true, false, List, length, get_or, set, replicate, sym, ap, ◌∙◌, subst, ⊎_elim, set-set, arith}
use Rattle.std.proofs.lemmas.Bool.{cases_eq}
use Rattle.std.proofs.lemmas.List.{length-set, length-replicate, get_or-replicate, get_or-set_same, get_or-set_other, get_or_read}
use Rattle.gate_model.specs.Arms.{no_arm}
use Rattle.gate_model.specs.Limits.{arm_limit}
use Rattle.gate_model.specs.Table.{Table}
use Rattle.gate_model.specs.Tallies.{is_idle, with_row, row_started}
use Rattle.gate_model.specs.declared.arm.Arm.{Arm}
use Rattle.gate_model.specs.declared.phase.Phase.TheVariants as P
use Rattle.gate_model.proofs.SameButRow.{row_table}
use Rattle.gate_model.proofs.Tables.{map_from, idle_is}

module _ {At : Type 0} (door : Table At) (old : List (Arm At)) (k : ℕ) where
  -- only the record at k is another: its row is 0, and these are its notes
  abbrev noted : List Bool → List (Arm At)
  noted t = set old k (with_row (replicate arm_limit 0) t (get_or old k (no_arm door)))

  -- the notes below j tell which arms are idle; the others are still all true
  abbrev notes_to : ℕ → List Bool
  notes_to zero = replicate arm_limit true
  notes_to (suc j) = set (notes_to j) j (is_idle door (get_or old j (no_arm door)))

  abbrev pub Noting : ℕ → List (Arm At) → Type 0
  Noting j arms = arms ≡ noted (notes_to j)

  length_notes : (j : ℕ) → length (notes_to j) ≡ arm_limit
  length_notes zero = length-replicate {A = Bool} arm_limit true
  length_notes (suc j) = length-set (notes_to j) j _ ∙ length_notes j

  notes_tell : (j m : ℕ) → m < arm_limit → (j ≤ m → is_idle door (get_or old m (no_arm door)) ≡ true) → get_or (notes_to j) m false ≡ is_idle door (get_or old m (no_arm door))
  notes_tell zero m lt rest = get_or-replicate arm_limit m true false lt ∙ sym (rest (omega arith))
  notes_tell (suc j) m lt rest = ⊎_elim
      (λ q. subst (λ x. get_or (notes_to (suc j)) x false ≡ is_idle door (get_or old x (no_arm door))) (sym q) (get_or-set_same (notes_to j) j _ false (omega (arith, q, lt, length_notes j))))
      (λ ne. get_or-set_other (notes_to j) j m _ false ne ∙ notes_tell j m lt (λ le. rest (omega (arith, ne, le))))
      (cases_eq m j)

  -- once the notes of all arms of the gate are made, the row has started: the records past them are idle
  pub noting_ends : (j : ℕ) (arms : List (Arm At)) (n : ℕ) → length old ≡ arm_limit → Noting j arms → n ≤ j → ((m : ℕ) → n ≤ m → door.phase (get_or old m (no_arm door)).position ≡ P.I)
      → arms ≡ row_started door k old
  noting_ends j arms n full e past rest =
      e ∙ ap noted (map_from (is_idle door) (notes_to j) old (no_arm door) false (length_notes j ∙ sym full)
      (λ m lt. notes_tell j m (omega (arith, full, lt)) (λ le. idle_is door (get_or old m (no_arm door)) (rest m (omega (arith, past, le))))))

  module _ (here : k < length old) where
    -- the record as it is read
    record_read : (arms : List (Arm At)) (t : List Bool) (a : Arm At) → arms ≡ noted t → a ≡ get_or arms k a → get_or arms k a ≡ with_row (replicate arm_limit 0) t (get_or old k (no_arm door))
    record_read arms t a e is =
        let here' : k < length arms = rw (ap length e ∙ length-set old k _) here in
        sym is ∙ get_or_read arms k a here' is (no_arm door) ∙ ap (λ x. get_or x k (no_arm door)) e ∙ get_or-set_same old k _ (no_arm door) here

    -- the record put back with other notes
    over : (arms : List (Arm At)) (t t' : List Bool) (a : Arm At) → arms ≡ noted t → a ≡ get_or arms k a → set arms k (record (get_or arms k a) { notes = t' }) ≡ noted t'
    over arms t t' a e is =
        ap (λ x. set x k (record (get_or arms k a) { notes = t' })) e ∙ set-set old k _ _ ∙ ap (λ x. set old k (record x { notes = t' })) (record_read arms t a e is)

    -- the row was set to 0, and all arms were noted as idle
    pub noting_begins : (zeroed : List (Arm At)) (a b : Arm At) → zeroed ≡ set old k (record (get_or old k a) { row = replicate arm_limit 0 }) → a ≡ get_or old k a → b ≡ get_or zeroed k b
        → Noting 0 (set zeroed k (record (get_or zeroed k b) { notes = replicate arm_limit true }))
    noting_begins zeroed a b e is is' = over zeroed (get_or old k a).notes (replicate arm_limit true) b
        (e ∙ ap (λ x. set old k (record x { row = replicate arm_limit 0; notes = (get_or old k a).notes })) (sym is ∙ get_or_read old k a here is (no_arm door))) is'

    -- one more note
    pub noting_goes_on : (j : ℕ) (arms : List (Arm At)) (a : Arm At) (v : Bool) → Noting j arms → a ≡ get_or arms k a → v ≡ is_idle door (get_or arms j (no_arm door))
        → Noting (j + 1) (set arms k (record (get_or arms k a) { notes = set (get_or arms k a).notes j v }))
    noting_goes_on j arms a v e is told =
        let up : suc j ≡ j + 1 = omega arith in
        let idle : v ≡ is_idle door (get_or old j (no_arm door)) =
        told ∙ ap (λ x. is_idle door (get_or x j (no_arm door))) e
        ∙ ap (λ p. is_idle door (record (no_arm door) { position = p })) ((row_table door (replicate arm_limit 0) (notes_to j) k old).0 j).0 in
        over arms (notes_to j) _ a e is ∙ ap (λ x. noted (set x.notes j v)) (record_read arms (notes_to j) a e is) ∙ ap (λ v. noted (set (notes_to j) j v)) idle ∙ ap (λ m. noted (notes_to m)) up
