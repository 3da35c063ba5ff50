use Rattle.model_logic.specs.Choice.{declared_box}
use Rattle.judge_report.specs.Lost.{IsScriptHeld}
use Rattle.judge_report.proofs.loss.first_terminal.Given as goal

abbrev pub invariant-loop-k : goal.invariant-loop-k
invariant-loop-k l = IsScriptHeld l.compiled.line.now l.script (declared_box l.compiled.line.now)
    l.k
