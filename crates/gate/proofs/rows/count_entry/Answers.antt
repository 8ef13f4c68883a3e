use Rattle.std.proofs.Common.{sym, ◌∙◌, arith}
use Rattle.gate_model.specs.Arms.{no_arm}
use Rattle.gate_model.specs.Tallies.{counted}
use Rattle.gate_model.proofs.Tables.{map_first, idle_uncounted}
use Rattle.gate.proofs.rows.count_entry.Goals as goal

pub returns : goal.returns
returns g c =
    let door = g.D.Door.table in
    let now = c.loop-k.invariant in
    record {
      after =
          map_first (counted door c.args.b) c.args.n c.loop-k.arms c.args.arms.now (no_arm door) (no_arm door) (now.0 ∙ sym c.told-arms)
          (λ j h. now.1 j (omega arith))
          (λ j past h. now.2 j (omega arith) ∙ sym (idle_uncounted door c.args.b _ (c.requires.rest j past)));
      full = now.0;
    }
