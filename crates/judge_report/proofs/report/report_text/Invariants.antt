use Rattle.std.proofs.Common.{◌≡◌, take}
use Rattle.model_line.specs.declared.script.Script.{Script}
use Rattle.model_logic.specs.Histories.{PairHistory}
use Rattle.judge_report.specs.ReportText.{AreHistories, report_text_of}
use Rattle.judge_report.proofs.report.report_text.Given as goal

abbrev pub invariant-loop-script : goal.invariant-loop-script
invariant-loop-script l =
    (histories : Script → PairHistory) → AreHistories l.compiled.line.now histories
    → l.text.items ≡ report_text_of l.compiled.line.now (take l.script-index l.scripts) histories
