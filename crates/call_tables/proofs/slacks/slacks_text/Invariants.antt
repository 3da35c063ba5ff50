use Rattle.std.proofs.Common.{◌≡◌, ◌++◌}
use Rattle.csv.specs.Writing.{row_text, default_writer}
use Rattle.call_tables.specs.Slacks.{slack_rows, slacks_header}
use Rattle.call_tables.proofs.slacks.slacks_text.Given as goal

abbrev pub invariant-loop-place : goal.invariant-loop-place
invariant-loop-place l = l.text.items
    ≡ row_text default_writer slacks_header ++ slack_rows l.line l.scripts l.ends l.lacks l.place
