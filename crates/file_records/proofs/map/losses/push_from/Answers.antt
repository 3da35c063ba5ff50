use Rattle.std.proofs.Common.{sym, ◌∙◌}
use Rattle.std.proofs.lemmas.Result.{err_from_is_err_and}
use Rattle.std.proofs.lemmas.List.{drop_all}
use Rattle.base_memory.specs.CheckLaws.{fails_ends}
use Rattle.toml.specs.View.{table_view}
use Rattle.file_records.specs.map.Signals.{signals_values, losses_from}
use Rattle.file_records.proofs.map_lemmas.Steps.{losses_more}
use Rattle.file_records.proofs.map.losses.push_from.Goals as goal

pub returns-in_err-push_loss : goal.returns-in_err-push_loss
returns-in_err-push_loss c =
    let told = err_from_is_err_and c.from_residual.result c.from_residual.ensures.1 in
    let more = losses_more c.args.line.now c.args.path c.args.k (table_view c.args.table.now)
    c.loop-j.j c.args.terminals.now c.index-terminals-j.result
    (signals_values c.loop-j.signals) c.loop-j-test.true in
    let here = rw (← c.index-terminals-j.is, ← c.channel_of-channel.ensures.number) at more in
    rw (told.1, told.2)
    (fails_ends c.in_err-push_loss.field-0.0 _ _ _ c.in_err-push_loss.ensures
    (here ∙ c.loop-j.invariant))

pub loop-j-preserved : goal.loop-j-preserved
loop-j-preserved c =
    let more = losses_more c.args.line.now c.args.path c.args.k (table_view c.args.table.now)
    c.loop-j.j c.args.terminals.now c.index-terminals-j.result
    (signals_values c.loop-j.signals) c.loop-j-test.true in
    let here = rw (← c.index-terminals-j.is, ← c.channel_of-channel.ensures.number) at more in
    let next = rw c.in_ok-push_loss.ensures at here in
    next ∙ c.loop-j.invariant

pub returns : goal.returns
unfolding losses_from
returns c =
    let none = drop_all c.loop-j.j c.args.terminals.now c.loop-j-test.false in
    sym (rw none at c.loop-j.invariant)
