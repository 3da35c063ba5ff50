use Rattle.std.proofs.Common.{ℕ, ◌<◌}
use Rattle.model_line.specs.Making.{least_ends, greatest_ends}
use Rattle.model_line.specs.Intervals.{IsInterval}
use Rattle.model_line.proofs.bounds.are_intervals.Given as goal

abbrev pub invariant-loop-i : goal.invariant-loop-i
invariant-loop-i l =
    (i : ℕ) → i < l.i → IsInterval (least_ends l.bounds) (greatest_ends l.bounds) i
