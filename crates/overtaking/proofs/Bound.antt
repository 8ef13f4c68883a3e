-- How often an arm is passed, put together: from the rules, and where an arm rests, begins and leaves.
use Rattle.std.proofs.Common.{◌≡◌, ℕ, ◌+◌, ◌-◌, ◌≤◌, false, cond, T, List, length, sym, refl, ap, ◌∙◌, subst, arith}
use Rattle.std.proofs.lemmas.List.{length-replicate, get_or-replicate}
use Rattle.gate_model.specs.Limits.{arm_limit}
use Rattle.gate_model.specs.Making.{Making}
use Rattle.gate_model.specs.Table.{Table}
use Rattle.gate_model.specs.Arms.{fresh, no_arm}
use Rattle.gate_model.specs.States.{State, made, is_arm, arm_at}
use Rattle.gate_model.specs.Calls.{run}
use Rattle.gate_model.specs.History.{is_in, past_doorway, Waits, IsPastDoorway, entries_before, latest_lost, entries_since, idle_then, lost_to}
use Rattle.gate_model.specs.Phases.{same_phase}
use Rattle.gate_model.specs.Rules.{Phased, ShowsRules}
use Rattle.gate_model.specs.Law.{AtMostTwiceUntilIdle, OnceIfIdleUntilIdle, OnceItself, Passing}
use Rattle.gate_model.specs.declared.call.Call.{Call}
use Rattle.gate_model.specs.declared.phase.Phase.TheVariants as P
use Rattle.gate_model.proofs.Bools.{and_T, T_and, T_or_left, is_true}
use Rattle.gate_model.proofs.Rooms.{arms_few}
use Rattle.gate_model.proofs.Accepted.{arm_in}
use Rattle.gate_model.proofs.Meant.{start_fresh}
use Rattle.overtaking.proofs.Entries.{Overtaken, overtaken_run, bound, once_itself as exactly_once, start_overtaken}
use Rattle.gate_model.proofs.Unaltered.{run_n}
use Rattle.overtaking.proofs.Rows.{Row, Kept, kept_run}

module _ {At : Type 0} {door : Table At} (phased : Phased door) (rules : ShowsRules door) (making : Making) (past : List Call) where
  abbrev start : State At
  start = made door making

  abbrev now : State At
  now = run door start past

  few : start.n ≤ arm_limit
  few = arms_few door making.high (length making.regs) making.wanted

  pub arm_range : (w : ℕ) → T (is_arm now w) → (1 ≤ w) × (w ≤ start.n)
  arm_range w h = let x = arm_in now w h in (x.0, (let y = x.1 in let z = run_n door past start in omega arith))

  pub past_range : (w : ℕ) → IsPastDoorway door now w → (1 ≤ w) × (w ≤ start.n) × T (past_doorway door now w)
  past_range w h = let y = and_T (is_arm now w) (past_doorway door now w) h in let x = arm_range w y.0 in (x.0, x.1, y.1)

  waits_past : (w : ℕ) → Waits door now w → IsPastDoorway door now w
  waits_past w h = let y = and_T (is_arm now w) (is_in door P.W now w) h in T_and (is_arm now w) (past_doorway door now w) y.0 (T_or_left (is_in door P.W now w) _ y.1)

  counts : (w b : ℕ) → 1 ≤ w → w ≤ start.n → 1 ≤ b → b ≤ start.n → Overtaken door w b now (entries_since door w b start past) (idle_then door w b start past)
  counts w b wlo whi blo bhi = overtaken_run door phased rules w b wlo blo past start whi bhi 0 false (start_overtaken door phased making w b)

  now_in : (w : ℕ) → w ≤ start.n → w ≤ now.n
  now_in w h = let z = run_n door past start in omega arith

  passed : (w b : ℕ) → IsPastDoorway door now w → T (is_arm now b) → (entries_since door w b start past ≤ 2) × (T (idle_then door w b start past) → entries_since door w b start past ≤ 1)
  passed w b hw hb = let x = past_range w hw in let y = arm_range b hb in bound door w b now x.0 (now_in w x.1) _ _ (counts w b x.0 x.1 y.0 y.1) x.2

  twice_until_idle : AtMostTwiceUntilIdle door start past now
  twice_until_idle w b hw hb = (passed w b hw hb).0

  once_until_idle : OnceIfIdleUntilIdle door start past now
  once_until_idle w b hw hb = (passed w b hw hb).1

  once_itself : OnceItself door start past now
  once_itself w hw = let x = past_range w hw in exactly_once door w now x.0 (now_in w x.1) _ _ (counts w w x.0 x.1 x.0 x.1) x.2

  fresh_at : (w : ℕ) → 1 ≤ w → w ≤ start.n → arm_at door start w ≡ fresh door
  fresh_at w lo hi = get_or-replicate arm_limit (w - 1) (fresh door) (no_arm door) (let z = few in omega arith)

  fresh_phase : (w : ℕ) → is_in door P.W start w ≡ false
  fresh_phase w = ap (λ p. same_phase p P.W) (start_fresh door phased making w)

  fresh_kept : (w b : ℕ) → 1 ≤ w → w ≤ start.n → 1 ≤ b → b ≤ start.n → Kept door w b start 0 0 false
  fresh_kept w b wlo whi blo bhi = record {
    row = subst (λ a. Row b a 0 false) (sym (fresh_at w wlo whi)) (record {
      full = length-replicate {A = ℕ} arm_limit 0;
      count = get_or-replicate arm_limit (b - 1) 0 0 (let z = few in omega arith);
      note = get_or-replicate arm_limit (b - 1) false false (let z = few in omega arith);
    });
    since = λ t. refl;
    low = (omega arith, λ t. absurd t);
  }

  kept : (w b : ℕ) → T (is_arm now w) → T (is_arm now b) → Kept door w b now (lost_to door w b start past) (entries_since door w b start past) (idle_then door w b start past)
  kept w b hw hb =
      let x = arm_range w hw in
      let y = arm_range b hb in
      subst (λ r. Kept door w b now (latest_lost door w b start past r) (entries_since door w b start past) (idle_then door w b start past))
      (ap (λ t. cond t (0 + entries_before door w b start past) 0) (fresh_phase w))
      (kept_run door w b start.n x.0 x.1 y.0 y.1 few phased rules past start refl 0 0 false (start_overtaken door phased making w b) (fresh_kept w b x.0 x.1 y.0 y.1))

  -- how often an arm is passed, of any door that shows the rules
  pub passing : Passing door start past now
  passing = record {
    twice = λ w b hw. twice_until_idle w b (waits_past w hw);
    once = λ w b hw. once_until_idle w b (waits_past w hw);
    itself = λ w hw. once_itself w (waits_past w hw) ∙ ap (λ t. cond t 0 1) (is_true (is_in door P.W now w) (and_T (is_arm now w) (is_in door P.W now w) hw).1);
    twice_until_idle = twice_until_idle;
    once_until_idle = once_until_idle;
    once_itself = once_itself;
    row = λ w b hw hb. let x = and_T (is_arm now w) (is_in door P.W now w) hw in let k = kept w b x.0 hb in k.row.count ∙ k.since x.1;
    notes = λ w b hw hb. (kept w b (and_T (is_arm now w) (is_in door P.W now w) hw).0 hb).row.note;
    row_kept = λ w b hw hb. (kept w b hw hb).row.count;
    notes_kept = λ w b hw hb. (kept w b hw hb).row.note;
    lost = λ w b hw hb. (kept w b hw hb).low;
  }
