-- A number of rounds that takes an arm inside is enough as any larger number too.
use Rattle.std.proofs.Common.{◌≡◌, ℕ, zero, suc, ◌+◌, ◌*◌, ◌≤◌, ⊎_elim, List, [], ◌∷◌, ◌++◌, inl, inr, sym, refl, ap, ◌∙◌, subst, arith}
use Rattle.std.proofs.lemmas.List.{append_assoc}
use Rattle.gate_model.specs.States.{State, is_arm}
use Rattle.gate_model.specs.Calls.{after, run}
use Rattle.gate_model.specs.History.{is_in, GoesInside, Waits, Rounds}
use Rattle.gate_model.specs.Law.{InsideWithin, ShowsWay}
use Rattle.gate_model.specs.Table.{Table}
use Rattle.gate_model.specs.declared.call.Call.{Call}
use Rattle.gate_model.specs.declared.phase.Phase.TheVariants as P
use Rattle.gate_model.proofs.Accepted.{arm_in}
use Rattle.gate_model.proofs.Bools.{and_T}

module _ {At : Type 0} (door : Table At) where
  -- what goes inside in the beginning of a list goes inside in the list
  pub goes_left : (w : ℕ) (first rest : List Call) (s : State At) → GoesInside door w s first → GoesInside door w s (first ++ rest)
  goes_left w [] rest s h = absurd h
  goes_left w (c ∷ first) rest s h = ⊎_elim (λ x. inl x) (λ x. inr (goes_left w first rest (after door s c) x)) h

  -- a list begins with k rounds
  abbrev Begins : ℕ → State At → List Call → Type 0
  Begins k s cs = (first : List Call) × (rest : List Call) × (cs ≡ first ++ rest) × Rounds door k s first

  -- a list of more rounds begins with fewer
  pub fewer_rounds : (k more : ℕ) → k ≤ more → (s : State At) (cs : List Call) → Rounds door more s cs → Begins k s cs
  fewer_rounds zero more h s cs rs = ([], cs, refl, refl)
  fewer_rounds (suc k) zero h s cs rs = absurd (omega arith)
  fewer_rounds (suc k) (suc more) h s cs (round, later, q, moves, rs) =
      let x = fewer_rounds k more (omega arith) (run door s round) later rs in
      (round ++ x.0, x.1, q ∙ (ap (λ y. round ++ y) x.2 ∙ sym (append_assoc round x.0 x.1)), (round, x.0, refl, moves, x.3))

  -- so an arm that goes inside within k rounds goes inside within more
  pub inside_more : (k more : ℕ) → k ≤ more → (s : State At) → InsideWithin door k s → InsideWithin door more s
  inside_more k more h s inside w wait further rs =
      let x = fewer_rounds k more h s further rs in
      subst (GoesInside door w s) (sym x.2) (goes_left w x.0 x.1 s (inside w wait x.0 x.3))

  -- a gate where an arm waits has an arm
  pub some_arm : (s : State At) (w : ℕ) → Waits door s w → 1 ≤ s.n
  some_arm s w wait = let x = arm_in s w (and_T (is_arm s w) (is_in door P.W s w) wait).0 in omega (arith, x.0, x.1)

  -- a door names no more rounds than 8 n + 20, so no more than 50 n + 10 where there are arms
  pub rounds_few : ShowsWay door → (n : ℕ) → 1 ≤ n → door.rounds n ≤ 50 * n + 10
  rounds_few way n some = let x = way.few n in omega (arith, some, x)
