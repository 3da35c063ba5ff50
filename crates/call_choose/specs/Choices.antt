-- The table of choices.
use Rattle.std.specs.Prelude.{◌≡◌, ◌++◌, ◌&&◌, ℕ, Bool, List, Option, Decides, length}
use Rattle.std.specs.List.{list_any}
use Rattle.csv.specs.Writing.{row_text, default_writer}
use Rattle.model_line.specs.{declared.line.Line.Line, declared.script.Script.Script}
use Rattle.model_settle.specs.Schemes.{IsOneRailedBy}
use Rattle.judge_choose.specs.{declared.range.Range.Range, declared.setting.Setting.Setting}
use Rattle.judge_choose.specs.Ranges.{AreRangesBelow}
use Rattle.call_answer.specs.{Answers.Answers, Answers.status_by, declared.done.Done.Done}
use Rattle.call_choose.specs.Left.{has_left}
use Rattle.call_choose.specs.Record.{choice_header, choice_rows}
use Rattle.call_choose.specs.declared.named.Named.{Named}

-- A range of each setting, told under its name. The status is 0 where nothing is left in any range;
-- else 1 where the trips of the line are one-railed, so that some choice fails what is left, and 2
-- where they are not.
pub record AreChoicesTold (line : Line) (scripts : List Script) (names : List Named)
    (settings : List Setting) (room : Option ℕ) (status : Done) (text : List ℕ) : Type 0 where
  pub ranges : List Range
  pub one_railed : Bool
  pub are : AreRangesBelow line scripts settings (length settings) ranges
  pub decides : Decides one_railed (IsOneRailedBy line.scheme line)
  pub status_is : status
      ≡ status_by (list_any has_left ranges && one_railed) (list_any has_left ranges)
  pub text_is : text
      ≡ row_text default_writer choice_header
      ++ choice_rows line scripts room one_railed names ranges

abbrev pub choices_told : Line → List Script → List Named → List Setting → Option ℕ → Answers
choices_told line scripts names settings room =
    AreChoicesTold line scripts names settings room
