use Rattle.std.proofs.Common.{◌≡◌, ◌++◌, map, drop}
use Rattle.std.specs.List.{flat_map}
use Rattle.csv.specs.Records.{fields_of}
use Rattle.call_compare.specs.Compared.{told_in}
use Rattle.call_compare.proofs.told.push_rows.Given as goal

-- the text so far and the records that are left are the whole
abbrev pub invariant-loop-now : goal.invariant-loop-now
invariant-loop-now l =
    l.text.items ++ flat_map (told_in l.group (map fields_of l.both.old.now)
    (map fields_of l.both.new.now)) (map fields_of (drop l.now-index l.rows))
    ≡ l.fn.text.items ++ flat_map (told_in l.group (map fields_of l.both.old.now)
    (map fields_of l.both.new.now)) (map fields_of l.rows)
