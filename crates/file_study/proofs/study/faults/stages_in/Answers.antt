use Rattle.std.proofs.Common.{◌∷◌, [], map, sym, ◌∙◌}
use Rattle.std.proofs.lemmas.Result.{err_from_is_err_and}
use Rattle.std.proofs.lemmas.List.{drop_all, map-append}
use Rattle.base_memory.specs.CheckLaws.{fails_ends}
use Rattle.file_line.specs.Lines.{line_values}
use Rattle.file_study.specs.study.Faults.{stage_values, stages_in}
use Rattle.file_study.proofs.study_lemmas.Steps.{stages_more}
use Rattle.file_study.proofs.study.faults.stages_in.Goals as goal

pub returns-in_err-stage : goal.returns-in_err-stage
returns-in_err-stage c =
    let told = err_from_is_err_and c.from_residual.result c.from_residual.ensures.1 in
    let more = stages_more c.args.loose c.args.kind c.args.units (line_values c.args.line.now) c.args.path
    c.loop-i.i c.args.items.now c.index-items-i.result
    (map stage_values c.loop-i.stages.items) c.loop-i-test.true in
    let here = rw (← c.index-items-i.is, ← c.item.ensures) at more in
    rw (told.1, told.2)
    (fails_ends c.in_err-stage.field-0.0 _ _ _ c.in_err-stage.ensures
    (here ∙ c.loop-i.invariant))

pub loop-i-preserved : goal.loop-i-preserved
loop-i-preserved c =
    let more = stages_more c.args.loose c.args.kind c.args.units (line_values c.args.line.now) c.args.path
    c.loop-i.i c.args.items.now c.index-items-i.result
    (map stage_values c.loop-i.stages.items) c.loop-i-test.true in
    let here = rw (← c.index-items-i.is, ← c.item.ensures) at more in
    let next = rw c.in_ok-stage.ensures at here in
    rw (
      c.in_ok-push.ensures.items,
      map-append stage_values c.loop-i.stages.items (c.in_ok-stage.stage ∷ []),
    )
    (next ∙ c.loop-i.invariant)

pub returns : goal.returns
unfolding stages_in
returns c =
    let none = drop_all c.loop-i.i c.args.items.now c.loop-i-test.false in
    sym (rw none at c.loop-i.invariant)
