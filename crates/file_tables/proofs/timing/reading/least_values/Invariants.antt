use Rattle.std.proofs.Common.{◌≡◌, map, take}
use Rattle.file_tables.proofs.timing.reading.least_values.Given as goal

abbrev pub invariant-loop-param : goal.invariant-loop-param
invariant-loop-param l =
    l.values.items ≡ map (λ p. p.least) (take l.param-index l.line.params.items)
