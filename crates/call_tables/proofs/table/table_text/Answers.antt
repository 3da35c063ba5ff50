use Rattle.std.proofs.Common.{◌≡◌, Some, refl, sym, ◌∙◌}
use Rattle.std.proofs.lemmas.List.{append-nil}
use Rattle.std.proofs.lemmas.Option.{slice_get_within, slice_get_read}
use Rattle.std.specs.Prelude.{slice_get}
use Rattle.csv.specs.Writing.{row_text, default_writer}
use Rattle.call_tables.specs.Table.{header_record}
use Rattle.call_tables.proofs.table.table_text.Goals as goal

pub loop-row-init : goal.loop-row-init
loop-row-init c =
    (rw c.new-text.ensures.items at c.in_ok-push_record.ensures)
    ∙ sym (append-nil (row_text default_writer header_record))

pub push_row-requires-clause-script : goal.push_row-requires-clause-script
push_row-requires-clause-script c =
    let at : slice_get c.args.rows.now c.loop-row.row-index ≡ Some c.row-item.result =
    slice_get_read c.args.rows.now _ c.loop-row.row-index c.row-item.result refl
    c.loop-row-test.true c.row-item.is in
    let row = c.requires.each c.loop-row.row-index c.row-item.result at in
    slice_get_within c.args.study.now.scripts.items c.row-item.result.script row.script row.at

pub push_row-requires-clause-terminal : goal.push_row-requires-clause-terminal
push_row-requires-clause-terminal c =
    let at : slice_get c.args.rows.now c.loop-row.row-index ≡ Some c.row-item.result =
    slice_get_read c.args.rows.now _ c.loop-row.row-index c.row-item.result refl
    c.loop-row-test.true c.row-item.is in
    (c.requires.each c.loop-row.row-index c.row-item.result at).terminal
