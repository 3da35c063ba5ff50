use Rattle.std.proofs.Common.{◌∷◌, [], map, sym, ◌∙◌}
use Rattle.std.proofs.lemmas.Result.{err_from_is_err_and}
use Rattle.std.proofs.lemmas.List.{drop_all, map-append}
use Rattle.base_memory.specs.CheckLaws.{fails_ends}
use Rattle.file_records.specs.map.Sources.{source_values, sources_in}
use Rattle.file_records.proofs.map_lemmas.Steps.{sources_more}
use Rattle.file_records.proofs.map.sources.push_items.Goals as goal

pub returns-in_err-source : goal.returns-in_err-source
returns-in_err-source c =
    let told = err_from_is_err_and c.from_residual.result c.from_residual.ensures.1 in
    let more = sources_more c.args.path c.args.signal c.loop-i.i c.args.items.now c.index-items-i.result
    (map source_values c.loop-i.sources.items) c.loop-i-test.true in
    let here = rw (← c.index-items-i.is, ← c.item.ensures) at more in
    rw (told.1, told.2)
    (fails_ends c.in_err-source.field-0.0 _ _ _ c.in_err-source.ensures
    (here ∙ c.loop-i.invariant))

pub loop-i-preserved : goal.loop-i-preserved
loop-i-preserved c =
    let more = sources_more c.args.path c.args.signal c.loop-i.i c.args.items.now c.index-items-i.result
    (map source_values c.loop-i.sources.items) c.loop-i-test.true in
    let here = rw (← c.index-items-i.is, ← c.item.ensures) at more in
    let next = rw c.in_ok-source.ensures at here in
    rw (
      c.in_ok-push.ensures.items,
      map-append source_values c.loop-i.sources.items (c.in_ok-source.source ∷ []),
    )
    (next ∙ c.loop-i.invariant)

pub returns : goal.returns
unfolding sources_in
returns c =
    let none = drop_all c.loop-i.i c.args.items.now c.loop-i-test.false in
    sym (rw none at c.loop-i.invariant)
