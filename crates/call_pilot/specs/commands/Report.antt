-- The command `report`.
use Rattle.std.specs.Prelude.{List}
use Rattle.model_line.specs.{declared.line.Line.Line, declared.script.Script.Script}
use Rattle.judge_report.specs.ReportText.{IsReportText}
use Rattle.call_answer.specs.Answers.{Answers, prints}

abbrev pub report_answer : Line → List Script → Answers
report_answer line scripts = prints (IsReportText line scripts)
