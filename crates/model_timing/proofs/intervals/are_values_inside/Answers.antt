use Rattle.std.proofs.Common.{arith}
use Rattle.model_timing.proofs.intervals.are_values_inside.Goals as goal

pub overflow_cast-i : goal.overflow_cast-i
overflow_cast-i c = let few = c.parameters_are_numbered.ensures.few c.args.line.now in omega (arith, few)
