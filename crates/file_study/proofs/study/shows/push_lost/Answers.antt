use Rattle.std.proofs.Common.{sym, ◌∙◌}
use Rattle.std.proofs.lemmas.Result.{err_from_is_err_and}
use Rattle.std.proofs.lemmas.List.{drop_all}
use Rattle.base_memory.specs.CheckLaws.{fails_ends}
use Rattle.base_memory.specs.declared.stopped.Stopped.TheVariants as stopped
use Rattle.file_line.specs.Lines.{line_values}
use Rattle.file_study.specs.study.Shows.{all_lost}
use Rattle.file_study.proofs.study_lemmas.Steps.{lost_more}
use Rattle.file_study.proofs.study.shows.push_lost.Goals as goal

pub returns-in_err-lost : goal.returns-in_err-lost
returns-in_err-lost c =
    let told = err_from_is_err_and c.from_residual.result c.from_residual.ensures.1 in
    let more = lost_more (line_values c.args.line.now) c.args.path
    c.loop-i.i c.args.items.now c.index-items-i.result c.loop-i.shows.items c.loop-i-test.true in
    let here = rw (← c.index-items-i.is, ← c.item.ensures) at more in
    rw (told.1, told.2)
    (fails_ends (stopped.Fault c.in_err-lost.field-0.0) _ _ _ (sym c.in_err-lost.ensures)
    (here ∙ c.loop-i.invariant))

pub loop-i-preserved : goal.loop-i-preserved
loop-i-preserved c =
    let more = lost_more (line_values c.args.line.now) c.args.path
    c.loop-i.i c.args.items.now c.index-items-i.result c.loop-i.shows.items c.loop-i-test.true in
    let here = rw (← c.index-items-i.is, ← c.item.ensures) at more in
    let next = rw (← c.in_ok-lost.ensures) at here in
    rw c.in_ok-push.ensures.items (next ∙ c.loop-i.invariant)

pub returns : goal.returns
unfolding all_lost
returns c =
    let none = drop_all c.loop-i.i c.args.items.now c.loop-i-test.false in
    sym (rw none at c.loop-i.invariant)
