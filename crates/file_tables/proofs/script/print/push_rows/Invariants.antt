use Rattle.std.proofs.Common.{◌≡◌, ◌++◌, map, take}
use Rattle.file_tables.specs.script.Printed.{row_record, records_text}
use Rattle.file_tables.proofs.script.print.push_rows.Given as goal

abbrev pub invariant-loop-span : goal.invariant-loop-span
invariant-loop-span l =
    l.text.items ≡ l.fn.text.items
    ++ records_text (map (row_record l.line l.script.name) (take l.span-index l.script.spans.items))
