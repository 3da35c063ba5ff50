use Rattle.call_choose.proofs.RowLaws.{rows_intervals, rows_settings}
use Rattle.call_choose.proofs.choose.choices_of.Goals as goal

pub choose_table-requires-clause-settings : goal.choose_table-requires-clause-settings
choose_table-requires-clause-settings c =
    let (rows, asked, are) = c.in_ok-all.ensures.is in
    let all = c.in_ok-all.all in
    rw c.deref-2.ensures.value (rows_settings c.args.compiled.now.line.now rows all.names.items
    all.settings.items are)

pub choose_table-requires-clause-intervals : goal.choose_table-requires-clause-intervals
choose_table-requires-clause-intervals c =
    let (rows, asked, are) = c.in_ok-all.ensures.is in
    let all = c.in_ok-all.all in
    rw c.deref.ensures.value (rows_intervals c.args.compiled.now.line.now rows all.names.items
    all.settings.items are)
