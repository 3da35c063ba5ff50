use Rattle.std.proofs.Common.{sym, ◌∙◌}
use Rattle.std.proofs.lemmas.List.{append-nil}
use Rattle.csv.specs.Writing.{row_text, default_writer}
use Rattle.call_shots.specs.Table.{shots_header}
use Rattle.call_shots.proofs.Found.{script_exists}
use Rattle.call_shots.proofs.table.table_text.Goals as goal

pub loop-one-init : goal.loop-one-init
loop-one-init c =
    (rw c.new-text.ensures.items at c.in_ok-push_header.ensures)
    ∙ sym (append-nil (row_text default_writer shots_header))

pub push_row-requires : goal.push_row-requires
push_row-requires c =
    script_exists c.args.cases.now.compiled.line.now c.args.cases.now.scripts.now c.args.shots.now
    c.args.rows.now c.loop-one.one-index _ c.requires c.loop-one-test.true
