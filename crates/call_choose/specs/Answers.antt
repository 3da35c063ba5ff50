-- What `choose` answers.
use Rattle.std.specs.Prelude.{ℕ, List, Option}
use Rattle.model_line.specs.{declared.line.Line.Line, declared.script.Script.Script}
use Rattle.judge_choose.specs.declared.setting.Setting.{Setting}
use Rattle.call_answer.specs.{Answers.Answers, declared.done.Done.Done}
use Rattle.call_choose.specs.{Choices.AreChoicesTold, Rows.AreRows, Rows.Row}
use Rattle.call_choose.specs.declared.named.Named.{Named}

-- the table of the settings of these records
pub record AreChosen (line : Line) (scripts : List Script) (rows : List Row) (room : Option ℕ)
    (status : Done) (text : List ℕ) : Type 0 where
  pub names : List Named
  pub settings : List Setting
  pub of : AreRows line rows names settings
  pub told : AreChoicesTold line scripts names settings room status text

abbrev pub choose_answer : Line → List Script → List Row → Option ℕ → Answers
choose_answer line scripts rows room = AreChosen line scripts rows room
