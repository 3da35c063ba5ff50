use Rattle.std.proofs.Common.{◌∙◌, ap, map}
use Rattle.std.proofs.lemmas.List.{take_all}
use Rattle.call_work.specs.{load.Chosen.name_of_param, load.Nearest.near_name}
use Rattle.call_work.proofs.load_lemmas.NearestLaws.{fold_on, near_on, nearest_found}
use Rattle.call_work.proofs.load.nearest.nearest_parameter.Goals as goal

pub loop-i-preserved : goal.loop-i-preserved
loop-i-preserved c =
    let params = c.as_slice-params.result.now in
    let i = c.loop-i.i in
    let d = c.index-params-i.result in
    let near = c.loop-i.near in
    let asked = c.args.asked.now in
    rw c.in_ok-nearer.ensures (record {
      is = fold_on name_of_param asked params i d near c.loop-i-test.true c.loop-i.invariant.is;
      least = near_on name_of_param asked params i d near c.loop-i-test.true
          c.loop-i.invariant.least;
    })

pub returns-clause-is : goal.returns-clause-is
returns-clause-is c =
    c.name_in.ensures
    ∙ ap near_name (rw (
      take_all c.loop-i.i c.as_slice-params.result.now c.loop-i-test.false,
      c.as_slice-params.ensures.value,
    ) at c.loop-i.invariant.is)

pub returns-clause-nearest : goal.returns-clause-nearest
returns-clause-nearest c =
    let all = take_all c.loop-i.i c.as_slice-params.result.now c.loop-i-test.false in
    rw c.name_in.ensures
    (nearest_found c.args.asked.now (map name_of_param c.args.line.now.params.items) c.loop-i.near
    (rw (all, c.as_slice-params.ensures.value) at c.loop-i.invariant.least))
