use Rattle.std.proofs.Common.{◌≡◌, map, take}
use Rattle.file_tables.specs.{script.Values.values_of, script.Printed.file_records, script.Printed.records_text}
use Rattle.file_tables.proofs.script.print.print_scripts.Given as goal

abbrev pub invariant-loop-script : goal.invariant-loop-script
invariant-loop-script l =
    l.text.items
    ≡ records_text (file_records l.line (map values_of (take l.script-index l.scripts)))
