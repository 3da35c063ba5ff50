use Rattle.std.proofs.Common.{◌≡◌, map, take}
use Rattle.std.specs.List.{flat_map}
use Rattle.model_timing.specs.NamedValues.{values_of}
use Rattle.call_tables.specs.Written.{failing_of}
use Rattle.call_tables.proofs.timings.failing.Given as goal

abbrev pub invariant-loop-row : goal.invariant-loop-row
invariant-loop-row l =
    map values_of l.timings.items ≡ flat_map (failing_of l.line) (take l.row-index l.rows)
