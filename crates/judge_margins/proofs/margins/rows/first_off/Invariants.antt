use Rattle.judge_margins.specs.margins.Asks.{AreOn}
use Rattle.judge_margins.proofs.margins.rows.first_off.Given as goal

abbrev pub invariant-loop-i : goal.invariant-loop-i
invariant-loop-i l = AreOn l.rows l.lane l.i
