use Rattle.judge_margins.specs.margins.Asks.{AreRows}
use Rattle.judge_margins.proofs.margins.rows.rows.Given as goal

abbrev pub invariant-loop-i : goal.invariant-loop-i
invariant-loop-i l = AreRows l.of l.asks l.first l.i l.rows.items
