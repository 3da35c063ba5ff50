-- What is answered of a parameter: its line, and whether it has a margin.
use Rattle.std.specs.Prelude.{◌≡◌, ℕ, Bool, List, is_some}
use Rattle.model_line.specs.{declared.line.Line.Line, declared.script.Script.Script}
use Rattle.judge_report.specs.declared.upper_end.UpperEnd.{UpperEnd}
use Rattle.judge_report.specs.{Margin.IsUpperEnd, MarginText.margin_line}

pub record IsMarginAnswer
    (line : Line) (scripts : List Script) (param : ℕ) (found : Bool) (text : List ℕ)
    : Type 0 where
  pub end : UpperEnd
  pub is : IsUpperEnd line scripts param end
  pub found_is : found ≡ is_some end.greatest
  pub text_is : text ≡ margin_line line scripts param end
