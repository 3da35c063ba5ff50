use Rattle.std.proofs.Common.{◌≡◌, map, drop}
use Rattle.csv.specs.Records.{fields_of}
use Rattle.call_compare.specs.Versions.{first_at}
use Rattle.call_compare.proofs.versions.first_at.Given as goal

-- the first among the records that are left is the first of all
abbrev pub invariant-loop-row : goal.invariant-loop-row
invariant-loop-row l =
    first_at l.fault l.terminal (map fields_of l.table) (map fields_of (drop l.row-index l.rows))
    ≡ first_at l.fault l.terminal (map fields_of l.table) (map fields_of l.rows)
