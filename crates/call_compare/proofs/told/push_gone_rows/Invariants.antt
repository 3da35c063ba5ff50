use Rattle.std.proofs.Common.{◌≡◌, ◌++◌, map, drop}
use Rattle.std.specs.List.{flat_map}
use Rattle.csv.specs.Records.{fields_of}
use Rattle.call_compare.specs.Compared.{told_gone}
use Rattle.call_compare.proofs.told.push_gone_rows.Given as goal

-- the text so far and the records that are left are the whole
abbrev pub invariant-loop-was : goal.invariant-loop-was
invariant-loop-was l =
    l.text.items ++ flat_map (told_gone (map fields_of l.both.old.now) (map fields_of l.both.new.now))
    (map fields_of (drop l.was-index l.rows))
    ≡ l.fn.text.items ++ flat_map (told_gone (map fields_of l.both.old.now)
    (map fields_of l.both.new.now)) (map fields_of l.rows)
