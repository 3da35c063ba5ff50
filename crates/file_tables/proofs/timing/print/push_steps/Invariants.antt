use Rattle.std.proofs.Common.{◌≡◌, ◌++◌, map, take}
use Rattle.file_tables.specs.script.Printed.{records_text}
use Rattle.file_tables.specs.timing.Printed.{step_record}
use Rattle.file_tables.proofs.timing.print.push_steps.Given as goal

abbrev pub invariant-loop-i : goal.invariant-loop-i
invariant-loop-i l =
    l.text.items
    ≡ l.fn.text.items ++ records_text (map (step_record l.line l.name) (take l.i l.steps))
