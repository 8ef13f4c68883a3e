use Rattle.std.proofs.Common.{◌++◌, add-one, append_assoc, ◌∙◌, rules, arith}
use Rattle.play.specs.Reports.{arm_line, first_line}
use Rattle.play.specs.Text.{lines}
use Rattle.play.proofs.Fits.{line_fits}
use Rattle.play.proofs.page.put_report.Goals as goal

pub loop-k-preserved : goal.loop-k-preserved
loop-k-preserved g c =
    let s = c.args.gate.now in
    let line = arm_line g.D.Door.table s in
    let longer = append_assoc (first_line s c.args.orders c.args.refused) (lines line c.loop-k.k) (line c.loop-k.k) in
    rw add-one (c.push_str-in-loop-k.ensures.bytes ∙ (λ i. c.loop-k.invariant i ++ (c.as_str-in-loop-k.ensures.value ∙ c.arm_line.ensures) i) ∙ longer)

pub push_str-requires-in-loop-k : goal.push_str-requires-in-loop-k
push_str-requires-in-loop-k g c = (
  omega arith,
  line_fits g.D.Door.table g.met.D.Door.bits c.args.gate.now c.args.orders c.args.refused c.loop-k.k _ _ _ c.arm_count-k-end.ensures.gate.reached (search rules) (search rules) (search rules)
      c.loop-k.invariant c.as_str-in-loop-k.ensures.value c.arm_line.ensures,
)
