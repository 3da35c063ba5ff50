use Rattle.std.proofs.Common.{sym, ◌∙◌}
use Rattle.std.proofs.lemmas.List.{append-nil}
use Rattle.csv.specs.Writing.{row_text, default_writer}
use Rattle.call_work.specs.explain.Table.{header_record}
use Rattle.call_work.proofs.explain.fields.changes_text.Goals as goal

pub loop-row-init : goal.loop-row-init
loop-row-init c =
    (rw c.new-text.ensures.items at c.in_ok-push_header.ensures)
    ∙ sym (append-nil (row_text default_writer header_record))
