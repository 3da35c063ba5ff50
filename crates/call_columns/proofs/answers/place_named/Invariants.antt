use Rattle.std.proofs.Common.{◌≡◌, None}
use Rattle.csv.specs.Records.{fields_of}
use Rattle.call_columns.specs.Answers.{place_below}
use Rattle.call_columns.proofs.answers.place_named.Given as goal

-- it is not among those before
abbrev pub invariant-loop-place : goal.invariant-loop-place
invariant-loop-place l = place_below l.name (fields_of l.header) l.place ≡ None
