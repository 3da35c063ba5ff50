use Rattle.std.proofs.Common.{sym, ◌∙◌}
use Rattle.std.proofs.lemmas.Result.{err_from_is_err_and}
use Rattle.std.proofs.lemmas.List.{drop_all}
use Rattle.base_memory.specs.CheckLaws.{fails_ends}
use Rattle.base_memory.specs.declared.stopped.Stopped.TheVariants as stopped
use Rattle.file_study.specs.study.Shows.{all_shown}
use Rattle.file_study.proofs.study_lemmas.Steps.{shown_more}
use Rattle.file_study.proofs.study.shows.push_shown.Goals as goal

pub returns-in_err-shown : goal.returns-in_err-shown
returns-in_err-shown c =
    let told = err_from_is_err_and c.from_residual.result c.from_residual.ensures.1 in
    let more = shown_more c.args.upward c.args.units c.args.lasts.now c.args.k c.args.path
    c.loop-i.i c.args.items.now c.index-items-i.result c.loop-i.shows.items c.loop-i-test.true in
    let here = rw (← c.index-items-i.is, ← c.item.ensures) at more in
    rw (told.1, told.2)
    (fails_ends (stopped.Fault c.in_err-shown.field-0.0) _ _ _ (sym c.in_err-shown.ensures)
    (here ∙ c.loop-i.invariant))

pub loop-i-preserved : goal.loop-i-preserved
loop-i-preserved c =
    let more = shown_more c.args.upward c.args.units c.args.lasts.now c.args.k c.args.path
    c.loop-i.i c.args.items.now c.index-items-i.result c.loop-i.shows.items c.loop-i-test.true in
    let here = rw (← c.index-items-i.is, ← c.item.ensures) at more in
    let next = rw (← c.in_ok-shown.ensures) at here in
    rw c.in_ok-push.ensures.items (next ∙ c.loop-i.invariant)

pub returns : goal.returns
unfolding all_shown
returns c =
    let none = drop_all c.loop-i.i c.args.items.now c.loop-i-test.false in
    sym (rw none at c.loop-i.invariant)
