use Rattle.std.proofs.Common.{◌≡◌, ◌++◌}
use Rattle.call_columns.specs.Fields.{blanks}
use Rattle.call_columns.proofs.line.push_blanks.Given as goal

abbrev pub invariant-loop : goal.invariant-loop
invariant-loop l = l.text.items ≡ l.fn.text.items ++ blanks l.counter
