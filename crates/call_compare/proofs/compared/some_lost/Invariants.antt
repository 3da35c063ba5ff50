use Rattle.std.proofs.Common.{◌≡◌, map, drop}
use Rattle.csv.specs.Records.{fields_of}
use Rattle.call_compare.specs.Compared.{are_lost}
use Rattle.call_compare.proofs.compared.some_lost.Given as goal

-- what is said of the records that are left is said of all
abbrev pub invariant-loop-now : goal.invariant-loop-now
invariant-loop-now l = are_lost (map fields_of l.both.old.now) (map fields_of l.both.new.now)
    (map fields_of (drop l.now-index l.rows))
    ≡ are_lost (map fields_of l.both.old.now) (map fields_of l.both.new.now) (map fields_of l.rows)
