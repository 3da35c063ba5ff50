use Rattle.std.proofs.Common.{◌≡◌, take}
use Rattle.call_tables.specs.Table.{table_text}
use Rattle.call_tables.proofs.table.table_text.Given as goal

abbrev pub invariant-loop-row : goal.invariant-loop-row
invariant-loop-row l =
    l.text.items ≡ table_text l.study.line l.study.scripts.items (take l.row-index l.rows)
