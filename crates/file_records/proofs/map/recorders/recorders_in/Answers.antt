use Rattle.std.proofs.Common.{◌∷◌, [], map, sym, ◌∙◌}
use Rattle.std.proofs.lemmas.Result.{err_from_is_err_and}
use Rattle.std.proofs.lemmas.List.{drop_all, map-append}
use Rattle.base_memory.specs.CheckLaws.{fails_ends}
use Rattle.file_records.specs.map.Recorders.{recorder_values, recorders_in}
use Rattle.file_records.proofs.map_lemmas.Steps.{recorders_more}
use Rattle.file_records.proofs.map.recorders.recorders_in.Goals as goal

pub returns-in_err-recorder : goal.returns-in_err-recorder
returns-in_err-recorder c =
    let told = err_from_is_err_and c.from_residual.result c.from_residual.ensures.1 in
    let more = recorders_more c.args.line.now c.args.start c.args.path c.loop-i.i
    c.args.items.now c.index-items-i.result (map recorder_values c.loop-i.recorders.items)
    c.loop-i-test.true in
    let here = rw (← c.index-items-i.is, ← c.item.ensures) at more in
    rw (told.1, told.2)
    (fails_ends c.in_err-recorder.field-0.0 _ _ _ c.in_err-recorder.ensures
    (here ∙ c.loop-i.invariant))

pub loop-i-preserved : goal.loop-i-preserved
loop-i-preserved c =
    let more = recorders_more c.args.line.now c.args.start c.args.path c.loop-i.i
    c.args.items.now c.index-items-i.result (map recorder_values c.loop-i.recorders.items)
    c.loop-i-test.true in
    let here = rw (← c.index-items-i.is, ← c.item.ensures) at more in
    let next = rw c.in_ok-recorder.ensures at here in
    rw (
      c.in_ok-push.ensures.items,
      map-append recorder_values c.loop-i.recorders.items (c.in_ok-recorder.recorder ∷ []),
    )
    (next ∙ c.loop-i.invariant)

pub returns : goal.returns
unfolding recorders_in
returns c =
    let none = drop_all c.loop-i.i c.args.items.now c.loop-i-test.false in
    sym (rw none at c.loop-i.invariant)
