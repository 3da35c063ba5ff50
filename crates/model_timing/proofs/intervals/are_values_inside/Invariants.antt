use Rattle.std.proofs.Common.{◌<◌, ℕ, get_or}
use Rattle.model_logic.specs.Choice.{IsIn}
use Rattle.model_line.specs.Parameters.{declared_ends}
use Rattle.model_timing.proofs.intervals.are_values_inside.Given as goal

abbrev pub invariant-loop-i : goal.invariant-loop-i
invariant-loop-i l = (k : ℕ) → k < l.i → IsIn (get_or l.values k 0) (declared_ends l.line k)
