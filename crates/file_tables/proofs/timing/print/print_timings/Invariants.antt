use Rattle.std.proofs.Common.{◌≡◌, map, take}
use Rattle.model_timing.specs.NamedValues.{values_of}
use Rattle.file_tables.specs.script.Printed.{records_text}
use Rattle.file_tables.specs.timing.Printed.{file_records}
use Rattle.file_tables.proofs.timing.print.print_timings.Given as goal

abbrev pub invariant-loop-timing : goal.invariant-loop-timing
invariant-loop-timing l =
    l.text.items
    ≡ records_text (file_records l.line (map values_of (take l.timing-index l.timings)))
