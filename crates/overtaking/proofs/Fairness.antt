-- The law of a gate over any door, put together: how often an arm is passed, the reads of a doorway, and right of way and going inside as the door shows them.
use Rattle.std.proofs.Common.{◌≡◌, ℕ, ◌+◌, ◌*◌, ◌≤◌, Bool, true, T, ◌↔◌, ◌⊎◌, inr, List, [], ◌∷◌, None, Ok, Result, sym, ap, ◌∙◌, subst, arith}
use Rattle.gate_model.specs.Table.{Table}
use Rattle.gate_model.specs.States.{State, made}
use Rattle.gate_model.specs.Calls.{after, run, refusal_of, answered, has_way, way_answer}
use Rattle.gate_model.specs.History.{goes_inside, GoesInside, Waits, Rounds}
use Rattle.gate_model.specs.Doorways.{ShowsReads}
use Rattle.gate_model.specs.Rules.{Phased, Always, ShowsRules}
use Rattle.gate_model.specs.Law.{AllInsideByDoor, WayTold, ShowsWay, Fair, Law, Origin, IsReached, Tells}
use Rattle.gate_model.specs.declared.call.Call.{Call}
use Rattle.gate_model.specs.declared.call.Call.TheVariants.{Way}
use Rattle.gate_model.specs.declared.refusal.Refusal.{Refusal}
use Rattle.gate_model.proofs.Always.{at_origin, at_reached, true_at}
use Rattle.gate_model.proofs.Bools.{test}
use Rattle.overtaking.proofs.Bound.{passing}
use Rattle.gate_model.proofs.Doorways.{reading}
use Rattle.gate_model.proofs.Sooner.{inside_more, some_arm, rounds_few}

-- the answer of way
yes_is : (b : Bool) → (◌≡◌ {A = Result Bool Refusal} (Ok b) (Ok true)) ↔ T b
yes_is b = grind arith

-- of any door that shows the rules, right of way and going inside
module _ {At : Type 0} (door : Table At) (phased : Phased door) (rules : ShowsRules door) (way : ShowsWay door) where
  pub fair : ShowsReads door → Always door (Fair door)
  fair reads making past =
      let s : State At = run door (made door making) past in
      let entering = way.entering making past in
      record {
        passing = passing phased rules making past;
        reading = reading door phased rules reads making past;
        entering = entering;
        rounds = λ w wait. inside_more door (door.rounds s.n) (50 * s.n + 10) (rounds_few door way s.n (some_arm door s w wait)) s entering.by_door w wait;
        sooner = inside_more door (door.rounds s.n) (8 * s.n + 20) (way.few s.n) s entering.by_door;
      }

  pub law : ShowsReads door → (s : State At) → Law door s
  law reads s making past e = subst (Fair door (made door making) past) e (fair reads making past)

  -- the door's part, at an origin
  by_door_at : (s : State At) → Origin door s → AllInsideByDoor door s
  by_door_at = at_origin door (AllInsideByDoor door) (λ making past. (way.entering making past).by_door)

  told_at : (s : State At) → Origin door s → WayTold door s
  told_at = at_origin door (WayTold door) (λ making past. (way.entering making past).told)

  -- whether an arm goes inside is decided, so any origin will do
  decided : (w : ℕ) (s : State At) (cs : List Call) → GoesInside door w s cs ⊎ ¬ (GoesInside door w s cs)
  decided w s [] = inr (λ h. h)
  decided w s (c ∷ cs) = let x = decided w (after door s c) cs in let y = test (goes_inside door w s c) in grind arith

  -- every waiting arm does, within as many rounds as the door names, or more
  pub inside_within : (s : State At) → IsReached door s → (w : ℕ) → Waits door s w → (k : ℕ) → door.rounds s.n ≤ k → (cs : List Call) → Rounds door k s cs → GoesInside door w s cs
  inside_within s reached w wait k enough cs rs =
      at_reached door (decided w s cs) (λ p. inside_more door (door.rounds s.n) k enough s (by_door_at s p) w wait cs rs) reached

  -- what way answers of a waiting arm
  pub tells : (s : State At) (w : ℕ) → IsReached door s → Tells door s w (way_answer door s w)
  tells s w reached wait =
      let here : refusal_of door s (Way w) ≡ None = grind arith in
      let is : way_answer door s w ≡ Ok (has_way door s w) = ap (λ r. answered r (has_way door s w)) here in
      let yes = yes_is (has_way door s w) in (
        (λ a cs steps alone. at_reached door (decided w s cs) (λ p. (told_at s p w wait).0 (yes.0 (sym is ∙ a)) cs steps alone) reached),
        (λ r. is ∙ yes.1 (true_at door (has_way door s w) (λ p. (told_at s p w wait).1 r) reached)),
      )

  pub tells_so : (s : State At) (w : ℕ) (answer : Result Bool Refusal) → IsReached door s → answer ≡ way_answer door s w → Tells door s w answer
  tells_so s w answer reached e = subst (Tells door s w) (sym e) (tells s w reached)
