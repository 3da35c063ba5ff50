use Rattle.std.proofs.Common.{arith}
use Rattle.model_line.proofs.Counts.{one_terminal_more}
use Rattle.model_line.proofs.setting_places.count_before.Goals as goal

pub loop-terminal-preserved : goal.loop-terminal-preserved
loop-terminal-preserved c = (
  one_terminal_more c.args.scheme c.args.terminals.now c.loop-terminal.terminal-index
      c.loop-terminal.count c.count_of_terminal-count.result c.terminal-item.result
      c.loop-terminal-test.true c.terminal-item.is c.loop-terminal.invariant.0
      c.count_of_terminal-count.ensures.count,
  omega (arith, c.count_of_terminal-count.ensures.bound, c.loop-terminal.invariant.1),
)
