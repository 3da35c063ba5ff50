use Rattle.std.proofs.Common.{sym, ◌∙◌}
use Rattle.std.proofs.lemmas.Result.{err_from_is_err_and}
use Rattle.std.proofs.lemmas.List.{drop_all}
use Rattle.base_memory.specs.CheckLaws.{fails_ends}
use Rattle.toml.specs.View.{table_view}
use Rattle.file_study.specs.study.Shows.{terminals_show}
use Rattle.file_study.proofs.study_lemmas.Steps.{terminals_show_more}
use Rattle.file_study.proofs.study.shows.push_terminals.Goals as goal

pub returns-in_err-push_terminal : goal.returns-in_err-push_terminal
returns-in_err-push_terminal c =
    let told = err_from_is_err_and c.from_residual.result c.from_residual.ensures.1 in
    let more = terminals_show_more c.args.upward c.args.units c.args.lasts.now c.args.path
    (table_view c.args.table.now) c.loop-k.k c.args.terminals.now c.index-terminals-k.result
    c.loop-k.shows.items c.loop-k-test.true in
    let here = rw (← c.index-terminals-k.is) at more in
    rw (told.1, told.2)
    (fails_ends c.in_err-push_terminal.field-0.0 _ _ _ c.in_err-push_terminal.ensures
    (here ∙ c.loop-k.invariant))

pub loop-k-preserved : goal.loop-k-preserved
loop-k-preserved c =
    let more = terminals_show_more c.args.upward c.args.units c.args.lasts.now c.args.path
    (table_view c.args.table.now) c.loop-k.k c.args.terminals.now c.index-terminals-k.result
    c.loop-k.shows.items c.loop-k-test.true in
    let here = rw (← c.index-terminals-k.is) at more in
    let next = rw c.in_ok-push_terminal.ensures at here in
    next ∙ c.loop-k.invariant

pub returns : goal.returns
unfolding terminals_show
returns c =
    let none = drop_all c.loop-k.k c.args.terminals.now c.loop-k-test.false in
    sym (rw none at c.loop-k.invariant)
