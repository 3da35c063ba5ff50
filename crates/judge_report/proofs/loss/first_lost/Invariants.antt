use Rattle.model_logic.specs.Choice.{declared_box}
use Rattle.judge_report.specs.Lost.{AreHeld}
use Rattle.judge_report.proofs.loss.first_lost.Given as goal

abbrev pub invariant-loop-s : goal.invariant-loop-s
invariant-loop-s l = AreHeld l.compiled.line.now l.scripts (declared_box l.compiled.line.now) l.s
