-- One induction over calls: what holds of every run, at every origin, and of every gate in hand.
use Rattle.std.proofs.Common.{◌≡◌, ℕ, Bool, T, ◌⊎◌, inl, inr, List, [], ◌∷◌, refl, ◌∙◌, subst, ⊎_elim, ◌≤◌, arith}
use Rattle.std.proofs.lemmas.Bool.{cases_eq, cases_lt}
use Rattle.std.proofs.lemmas.Grind.{not_there}
use Rattle.gate_model.specs.Calls.{after, run, stepped}
use Rattle.gate_model.specs.Law.{Origin, IsReached}
use Rattle.gate_model.specs.Making.{Making}
use Rattle.gate_model.specs.Rules.{Always}
use Rattle.gate_model.specs.States.{State, made, with_arm}
use Rattle.gate_model.specs.Table.{Table}
use Rattle.gate_model.specs.declared.arm.Arm.{Arm}
use Rattle.gate_model.specs.declared.call.Call.{Call}
use Rattle.gate_model.proofs.Bools.{test, clash}
use Rattle.gate_model.proofs.Effects.{Known, Visits, Does, nothing, visits, steps, does}

module _ {At : Type 0} (door : Table At) where
  -- what a call keeps a list keeps
  pub run_holds : (P : State At → Type 0) → ((s : State At) (c : Call) → P s → P (after door s c)) → (cs : List Call) (s : State At) → P s → P (run door s cs)
  run_holds P keeps [] s h = h
  run_holds P keeps (c ∷ cs) s h = run_holds P keeps cs (after door s c) (keeps s c h)

  -- and what no call alters no list does
  pub run_same : {X : Type 0} (f : State At → X) → ((s : State At) (c : Call) → f (after door s c) ≡ f s) → (cs : List Call) (s : State At) → f (run door s cs) ≡ f s
  run_same f stays cs s = run_holds (λ t. f t ≡ f s) (λ t c e. stays t c ∙ e) cs s refl

  -- a property that a record moved without an access keeps, and a step
  pub record IsKept (P : State At → Type 0) : Type 0 where
    pub visited : (s : State At) (c : Call) (i : ℕ) (r : Arm At) → Known door s i → Visits door s c i r → P s → P (with_arm i r s)
    pub stepped_so : (s : State At) (i : ℕ) → Known door s i → P s → P (stepped door i s)

  -- is kept by every call
  pub kept_by : (P : State At → Type 0) → IsKept P → (s : State At) (c : Call) → P s → P (after door s c)
  kept_by P kept s c h = by_effect c _ _ (does door s c)
    where
      by_effect : (c : Call) (ok : Bool) (t : State At) → Does door s c ok t → P t
      by_effect c ok t (nothing _) = h
      by_effect c ok t (visits known v) = kept.visited s c _ _ known v h
      by_effect c ok t (steps known _ _) = kept.stepped_so s _ known h

  -- so that it holds from every making on that has it
  pub always : (P : State At → Type 0) → IsKept P → ((making : Making) → P (made door making)) → Always door (λ start past s. P s)
  always P kept first making past = run_holds P (kept_by P kept) past (made door making) (first making)

  -- of a state with an origin
  pub at_origin : (P : State At → Type 0) → Always door (λ start past s. P s) → (s : State At) → Origin door s → P s
  at_origin P h s p = subst P p.leads (h p.making p.calls)

  -- and of a gate in hand, where it is decided, so that any origin will do
  pub at_reached : {X : Type 0} {s : State At} → X ⊎ ¬ X → (Origin door s → X) → IsReached door s → X
  at_reached decided from reached = ⊎_elim (λ x. x) (λ n. absurd (not_there reached (λ p. n (from p)))) decided

  pub at_most : {s : State At} (m n : ℕ) → (Origin door s → m ≤ n) → IsReached door s → m ≤ n
  at_most m n = at_reached (⊎_elim (λ l. inr (λ h. omega (arith, l, h))) inl (cases_lt n m))

  pub same_at : {s : State At} (m n : ℕ) → (Origin door s → m ≡ n) → IsReached door s → m ≡ n
  same_at m n = at_reached (cases_eq m n)

  pub true_at : {s : State At} (b : Bool) → (Origin door s → T b) → IsReached door s → T b
  true_at b = at_reached (⊎_elim inl (λ d. inr (λ t. clash b t d)) (test b))
