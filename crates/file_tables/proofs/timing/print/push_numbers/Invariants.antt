use Rattle.std.proofs.Common.{◌≡◌, ◌++◌, take}
use Rattle.file_tables.specs.script.Printed.{records_text}
use Rattle.file_tables.specs.timing.Printed.{number_records}
use Rattle.file_tables.proofs.timing.print.push_numbers.Given as goal

abbrev pub invariant-loop-i : goal.invariant-loop-i
invariant-loop-i l =
    l.text.items
    ≡ l.fn.text.items ++ records_text (number_records l.line l.name 0 (take l.i l.values))
