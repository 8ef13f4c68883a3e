use Rattle.std.proofs.Common.{◌≡◌, [], ◌∷◌, ◌++◌, map, take, set, add-one, sym, ap, ◌∙◌, arith}
use Rattle.std.proofs.Math.ListN.{length-set}
use Rattle.std.proofs.Math.Seq.{take-suc-set}
use Rattle.std.proofs.lemmas.List.{take_all}
use Rattle.std.proofs.lemmas.List.FromFn.{map-range_with_len_more}
use Rattle.std.specs.List.{range_with_len}
use Rattle.plantday.specs.Records.{plant_arms, is_busy}
use Rattle.plantday.proofs.record.busy_arms.Goals as goal

pub loop-k-preserved : goal.loop-k-preserved
loop-k-preserved g c =
    let busy = is_busy g.D.Door.table c.args.gate.now in
    let k = c.loop-k.k in
    let now = c.is_busy.result in
    record {
      places = simp length-set c.loop-k.invariant.places;
      filled = ap (λ n. take n (set c.loop-k.busy k now)) (add-one k)
          ∙ take-suc-set c.loop-k.busy k now (omega (arith, c.loop-k-test.true, c.loop-k.invariant.places))
          ∙ ap (λ bs. bs ++ now ∷ []) c.loop-k.invariant.filled
          ∙ ap (λ b. map busy (range_with_len 0 k) ++ b ∷ []) c.is_busy.ensures
          ∙ sym (map-range_with_len_more busy 0 k k (omega arith));
    }

pub returns : goal.returns
returns g c =
    let all : c.loop-k.k ≡ plant_arms = omega arith in
    sym (take_all c.loop-k.k c.loop-k.busy (omega (arith, c.loop-k.invariant.places))) ∙ c.loop-k.invariant.filled ∙ ap (λ k. map (is_busy g.D.Door.table c.args.gate.now) (range_with_len 0 k)) all
