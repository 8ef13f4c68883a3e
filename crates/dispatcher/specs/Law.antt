-- What a dispatcher's moves do for its arms, whatever each move is asked for.
use Rattle.std.specs.Prelude.{◌≡◌, ℕ, ◌+◌, ◌*◌, T, List, [], ◌∷◌, ◌++◌, length}
use Rattle.gate_model.specs.Calls.{run}
use Rattle.gate_model.specs.History.{is_in, Waits, GoesInside, Round}
use Rattle.gate_model.specs.Table.{Table}
use Rattle.gate_model.specs.declared.call.Call.{Call}
use Rattle.gate_model.specs.declared.phase.Phase.TheVariants as P
use Rattle.dispatcher.specs.Dispatchers.{Dispatch}
use Rattle.dispatcher.specs.Moves.{calls_of_move, moved}

module _ {At : Type 0} (door : Table At) where
  -- the dispatcher after some moves; each move gets the ring of one of these lists of arms
  abbrev pub after_moves : Dispatch At → List (List ℕ) → Dispatch At
  after_moves d [] = d
  after_moves d (asked ∷ more) = after_moves (moved door d asked) more

  -- the calls that these moves make on the gate
  abbrev pub calls_of_moves : Dispatch At → List (List ℕ) → List Call
  calls_of_moves d [] = []
  calls_of_moves d (asked ∷ more) = calls_of_move door d asked ++ calls_of_moves (moved door d asked) more

  -- moves do nothing to the gate but make these calls
  abbrev pub OnlyCalls : Dispatch At → Type 0
  OnlyCalls d = (rings : List (List ℕ)) → (after_moves d rings).gate ≡ run door d.gate (calls_of_moves d rings)

  -- n moves are a round: they serve every arm that is not idle at their start
  abbrev pub AllServed : Dispatch At → Type 0
  AllServed d = (rings : List (List ℕ)) → length rings ≡ d.gate.n → Round door d.gate (calls_of_moves d rings)

  -- a waiting arm goes inside at some call made by one of the next n (50 n + 10) moves
  abbrev pub InsideByMoves : Dispatch At → Type 0
  InsideByMoves d = (w : ℕ) → Waits door d.gate w → (rings : List (List ℕ)) → length rings ≡ d.gate.n * (50 * d.gate.n + 10)
      → GoesInside door w d.gate (calls_of_moves d rings)

  -- a waiting arm goes inside at some call made by one of the next n k moves
  abbrev pub InsideWithinMoves : ℕ → Dispatch At → Type 0
  InsideWithinMoves k d = (w : ℕ) → Waits door d.gate w → (rings : List (List ℕ)) → length rings ≡ d.gate.n * k → GoesInside door w d.gate (calls_of_moves d rings)

  -- arm w is inside in the gate as it stands after a first part of these moves
  abbrev pub SeenInside : ℕ → Dispatch At → List (List ℕ) → Type 0
  SeenInside w d rings = (first : List (List ℕ)) × (rest : List (List ℕ)) × (rings ≡ first ++ rest) × T (is_in door P.F (after_moves d first).gate w)

  -- a waiting arm is seen inside after one of the next n (50 n + 10) moves
  abbrev pub SeenByMoves : Dispatch At → Type 0
  SeenByMoves d = (w : ℕ) → Waits door d.gate w → (rings : List (List ℕ)) → length rings ≡ d.gate.n * (50 * d.gate.n + 10) → SeenInside w d rings

  -- a waiting arm is seen inside after one of the next n k moves
  abbrev pub SeenWithinMoves : ℕ → Dispatch At → Type 0
  SeenWithinMoves k d = (w : ℕ) → Waits door d.gate w → (rings : List (List ℕ)) → length rings ≡ d.gate.n * k → SeenInside w d rings

-- the law of moves, of any dispatcher in hand
pub record LawOfMoves {At : Type 0} (door : Table At) (d : Dispatch At) : Type 0 where
  pub calls : OnlyCalls door d
  pub served : AllServed door d
  pub inside : InsideByMoves door d
  pub seen : SeenByMoves door d
  -- the same two of the next n (8 n + 20) moves
  pub inside_sooner : InsideWithinMoves door (8 * d.gate.n + 20) d
  pub seen_sooner : SeenWithinMoves door (8 * d.gate.n + 20) d
  -- the same two of n times as many moves as the door names rounds
  pub inside_by_door : InsideWithinMoves door (door.rounds d.gate.n) d
  pub seen_by_door : SeenWithinMoves door (door.rounds d.gate.n) d
