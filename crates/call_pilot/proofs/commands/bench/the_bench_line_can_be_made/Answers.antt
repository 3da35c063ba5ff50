use Rattle.std.proofs.Common.{arith}
use Rattle.call_pilot.proofs.commands_lemmas.LineMade.{terminals_fit, pairs_once, bounds_fit}
use Rattle.call_pilot.proofs.commands.bench.the_bench_line_can_be_made.Goals as goal

pub returns : goal.returns
returns c = record {
  tick_in_range = (omega arith, omega arith);
  horizon_in_range = (omega arith, omega arith);
  terminals_fit = terminals_fit;
  pairs_once = pairs_once;
  bounds_fit = bounds_fit;
}
