-- A move serves the first arm not idle, so n moves serve every arm, and a waiting arm goes inside.
use Rattle.std.proofs.Common.{◌≡◌, ℕ, zero, suc, ◌+◌, ◌*◌, ◌<◌, ◌≤◌, not, T, ◌⊎◌, inl, inr, List, [], ◌∷◌, ◌++◌, length, take, drop, Some, None, Option, sym, refl, ap, ◌∙◌, subst, arith}
use Rattle.std.proofs.lemmas.Bool.Decides.{nat_tests}
use Rattle.std.proofs.lemmas.List.{append_assoc, take-append-drop, length-take-le, length-drop, nil_from_length}
use Rattle.std.proofs.Math.Nat.{mul-suc}
use Rattle.gate_model.specs.Calls.{after, run}
use Rattle.gate_model.specs.History.{is_in, Waits, Moves, Rounds}
use Rattle.gate_model.specs.Law.{ShowsWay, IsReached}
use Rattle.gate_model.specs.Rules.{Phased, ShowsRules}
use Rattle.gate_model.specs.States.{State, is_arm}
use Rattle.gate_model.specs.Table.{Table}
use Rattle.gate_model.specs.declared.call.Call.{Call}
use Rattle.gate_model.specs.declared.phase.Phase.TheVariants as P
use Rattle.gate_model.proofs.Accepted.{arm_in}
use Rattle.gate_model.proofs.Bools.{by, and_T, T_and}
use Rattle.overtaking.proofs.Fairness.{inside_within}
use Rattle.gate_model.proofs.Always.{run_holds}
use Rattle.gate_model.proofs.Origins.{run_append, reached_after}
use Rattle.gate_model.proofs.Unaltered.{run_n}
use Rattle.gate_model.proofs.Sooner.{some_arm, rounds_few}
use Rattle.dispatcher.specs.Dispatchers.{Dispatch, NoPassOut, IsDispatcher}
use Rattle.dispatcher.specs.Moves.{opening, is_busy, is_inside, in_turn, serving, serving_any, opened, in_line, calls_of_move, last_after, moved}
use Rattle.dispatcher.specs.Law.{after_moves, calls_of_moves, OnlyCalls, AllServed, InsideWithinMoves, SeenWithinMoves, LawOfMoves}
use Rattle.dispatcher.proofs.NoPassOut.{opening_spent, serving_spent}
use Rattle.dispatcher.proofs.Busy.{busy_after, moves_left, moves_right}
use Rattle.dispatcher.proofs.InsideAfterMove.{inside_after_moves}
use Rattle.dispatcher.proofs.CyclicOrder.{places_ahead, found_yes, in_line_found, ahead_few}

last_within : (r : Option ℕ) (last n : ℕ) → last ≤ n → ((i : ℕ) → r ≡ Some i → i ≤ n) → last_after last r ≤ n
last_within None last n within found = within
last_within (Some i) last n within found = found i refl

module _ {At : Type 0} (door : Table At) where
  busy_in : (s : State At) (b : ℕ) → T (is_busy door s b) → (1 ≤ b) × (b ≤ s.n)
  busy_in s b h = arm_in s b (and_T (is_arm s b) (not (is_in door P.I s b)) h).0

  -- after more calls a state is still one that calls lead to
  reached_run : (cs : List Call) (s : State At) → IsReached door s → IsReached door (run door s cs)
  reached_run = run_holds door (IsReached door) (λ s c. reached_after door s c (after door s c) refl)

  -- an arm that is served moves
  serve_moves : (s : State At) (b : ℕ) → NoPassOut door s → T (is_busy door s b) → Moves door b s (serving door s b)
  serve_moves s b u h =
      let x = u b in
      by (λ cs. Moves door b s cs) (is_inside door s b) _ _ (λ y. inl (grind (arith, nat_tests))) (λ n. inl (grind (arith, nat_tests)))

  module _ (d : Dispatch At) (asked : List ℕ) (ready : IsDispatcher door d) where
    abbrev s : State At
    s = opened door d asked

    abbrev next : Option ℕ
    next = in_line door d asked

    same_n : s.n ≡ d.gate.n
    same_n = run_n door (opening asked) d.gate

    spent_then : NoPassOut door s
    spent_then = opening_spent door d.gate asked ready.spent

    gate_after : (moved door d asked).gate ≡ run door s (serving_any door s next)
    gate_after = run_append door (opening asked) (serving_any door s next) d.gate

    pub n_after : (moved door d asked).gate.n ≡ d.gate.n
    n_after = run_n door (calls_of_move door d asked) d.gate

    pub ready_after : IsDispatcher door (moved door d asked)
    ready_after = record {
      within = subst (λ n. last_after d.last next ≤ n) (sym n_after)
          (last_within next d.last d.gate.n ready.within (λ i e. let r = busy_in s i (found_yes (is_busy door s) (in_turn s.n d.last) i e) in let z = same_n in omega (arith, r.1)));
      spent = subst (NoPassOut door) (sym gate_after) (serving_spent door s next spent_then);
      reached = reached_run (calls_of_move door d asked) d.gate ready.reached;
    }

    -- an arm that is not idle moves in the next move, or comes nearer
    pub served_or_nearer : (b : ℕ) → T (is_busy door d.gate b)
        → Moves door b d.gate (calls_of_move door d asked) ⊎ (T (is_busy door (moved door d asked).gate b) × (places_ahead d.gate.n (moved door d asked).last b < places_ahead d.gate.n d.last b))
    served_or_nearer b h = elim (busy_after door (opening asked) d.gate ready.reached b h) [
      | inl m ↦ inl (moves_left door (opening asked) (serving_any door s next) d.gate b m)
      | inr still ↦
          (let r = busy_in s b still in
          let f = in_line_found (is_busy door s) s.n d.last b (let z = same_n in omega (arith, ready.within)) r.0 r.1 still in
          elim f.2 [
            | inl same ↦ inl (moves_right door (opening asked) (serving_any door s next) d.gate b (subst (λ o. Moves door b s (serving_any door s o)) (sym (f.1 ∙ ap Some same)) (serve_moves s b spent_then still)))
            | inr nearer ↦ elim (busy_after door (serving_any door s next) s (reached_run (opening asked) d.gate ready.reached) b still) [
              | inl m ↦ inl (moves_right door (opening asked) (serving_any door s next) d.gate b m)
              | inr more ↦ inr (
                subst (λ t. T (is_busy door t b)) (sym gate_after) more,
                subst (λ n. places_ahead n (last_after d.last next) b < places_ahead n d.last b) same_n (subst (λ o. places_ahead s.n (last_after d.last o) b < places_ahead s.n d.last b) (sym f.1) nearer),
              )
            ]
          ])
    ]

  pub led : (d : Dispatch At) (asked : List ℕ) (e : Dispatch At) → e ≡ moved door d asked → IsDispatcher door d → IsDispatcher door e
  led d asked e same ready = subst (IsDispatcher door) (sym same) (ready_after d asked ready)

  -- an arm that is not idle moves within as many moves as it is places ahead
  served_within : (rings : List (List ℕ)) (d : Dispatch At) (b : ℕ) → IsDispatcher door d → T (is_busy door d.gate b) → places_ahead d.gate.n d.last b ≤ length rings → Moves door b d.gate (calls_of_moves door d rings)
  served_within [] d b ready h few = let r = busy_in d.gate b h in absurd (omega (arith, few, (ahead_few d.gate.n d.last b ready.within r.1 r.0).0))
  served_within (asked ∷ more) d b ready h few = elim (served_or_nearer d asked ready b h) [
    | inl m ↦ moves_left door (calls_of_move door d asked) (calls_of_moves door (moved door d asked) more) d.gate b m
    | inr x ↦ moves_right door (calls_of_move door d asked) (calls_of_moves door (moved door d asked) more) d.gate b
        (served_within more (moved door d asked) b (ready_after d asked ready) x.0
        (subst (λ n. places_ahead n (moved door d asked).last b ≤ length more) (sym (n_after d asked ready)) (omega (arith, x.1, few))))
  ]

  pub all_served : (d : Dispatch At) → IsDispatcher door d → AllServed door d
  all_served d ready rings e b arm busy =
      let h = T_and (is_arm d.gate b) (not (is_in door P.I d.gate b)) arm busy in
      let r = busy_in d.gate b h in
      served_within rings d b ready h (let z = (ahead_few d.gate.n d.last b ready.within r.1 r.0).1 in omega (arith, z, e))

  -- moves do nothing to the gate but their calls
  pub only_calls : (d : Dispatch At) → OnlyCalls door d
  only_calls d [] = refl
  only_calls d (asked ∷ more) = only_calls (moved door d asked) more ∙ sym (run_append door (calls_of_move door d asked) (calls_of_moves door (moved door d asked) more) d.gate)

  after_moves_ready : (rings : List (List ℕ)) (d : Dispatch At) → IsDispatcher door d → IsDispatcher door (after_moves door d rings)
  after_moves_ready [] d ready = ready
  after_moves_ready (asked ∷ more) d ready = after_moves_ready more (moved door d asked) (ready_after d asked ready)

  calls_append : (xs ys : List (List ℕ)) (d : Dispatch At) → calls_of_moves door d (xs ++ ys) ≡ calls_of_moves door d xs ++ calls_of_moves door (after_moves door d xs) ys
  calls_append [] ys d = refl
  calls_append (asked ∷ xs) ys d = ap (λ cs. calls_of_move door d asked ++ cs) (calls_append xs ys (moved door d asked)) ∙ sym (append_assoc (calls_of_move door d asked) (calls_of_moves door (moved door d asked) xs) (calls_of_moves door (after_moves door (moved door d asked) xs) ys))

  -- k times n moves are k rounds
  in_rounds : (k : ℕ) (d : Dispatch At) (rings : List (List ℕ)) → IsDispatcher door d → length rings ≡ d.gate.n * k → Rounds door k d.gate (calls_of_moves door d rings)
  in_rounds zero d rings ready e = ap (calls_of_moves door d) (nil_from_length rings (e ∙ omega arith))
  in_rounds (suc k) d rings ready e =
      let n = d.gate.n in
      let first = take n rings in
      let rest = drop n rings in
      let many : length rings ≡ n * k + n = e ∙ mul-suc n k in
      let short : length first ≡ n = length-take-le n rings (omega (arith, many)) in
      let left : length rest ≡ n * k = length-drop n rings ∙ omega (arith, many) in
      let same : (after_moves door d first).gate.n ≡ n = ap (λ s. s.n) (only_calls d first) ∙ run_n door (calls_of_moves door d first) d.gate in (
        calls_of_moves door d first,
        calls_of_moves door (after_moves door d first) rest,
        ap (calls_of_moves door d) (sym (take-append-drop n rings)) ∙ calls_append first rest d,
        all_served d ready first short,
        subst (λ t. Rounds door k t (calls_of_moves door (after_moves door d first) rest)) (only_calls d first)
            (in_rounds k (after_moves door d first) rest (after_moves_ready first d ready) (left ∙ ap (λ m. m * k) (sym same))),
      )

  module _ (phased : Phased door) (rules : ShowsRules door) (way : ShowsWay door) (d : Dispatch At) (ready : IsDispatcher door d) where
    -- n times as many moves as the door names rounds are enough, and so are more
    abbrev Enough : ℕ → Type 0
    Enough k = (w : ℕ) → Waits door d.gate w → door.rounds d.gate.n ≤ k

    inside : (k : ℕ) → Enough k → InsideWithinMoves door k d
    inside k enough w wait rings e = inside_within door phased rules way d.gate ready.reached w wait k (enough w wait) (calls_of_moves door d rings) (in_rounds k d rings ready e)

    seen : (k : ℕ) → Enough k → SeenWithinMoves door k d
    seen k enough w wait rings e = inside_after_moves door w rings d (inside k enough w wait rings e)

    fifty : Enough (50 * d.gate.n + 10)
    fifty w wait = rounds_few door way d.gate.n (some_arm door d.gate w wait)

    pub law_of_moves : LawOfMoves door d
    law_of_moves = record {
      calls = only_calls d;
      served = all_served d ready;
      inside = inside (50 * d.gate.n + 10) fifty;
      seen = seen (50 * d.gate.n + 10) fifty;
      inside_sooner = inside (8 * d.gate.n + 20) (λ w wait. way.few d.gate.n);
      seen_sooner = seen (8 * d.gate.n + 20) (λ w wait. way.few d.gate.n);
      inside_by_door = inside (door.rounds d.gate.n) (λ w wait. omega arith);
      seen_by_door = seen (door.rounds d.gate.n) (λ w wait. omega arith);
    }
