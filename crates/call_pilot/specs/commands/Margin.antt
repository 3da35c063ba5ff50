-- The command `margin`: how far the upper end of a parameter can be raised.
use Rattle.std.specs.Prelude.{ℕ, true, false, List}
use Rattle.model_line.specs.{declared.line.Line.Line, declared.script.Script.Script}
use Rattle.judge_report.specs.Answer.{IsMarginAnswer}
use Rattle.call_answer.specs.{Answers.Answers, declared.done.Done.Done}
use Rattle.call_answer.specs.declared.done.Done.TheVariants as done

-- the line of the margin: status 0 where there is one, status 2 where there is none
abbrev pub IsMarginText : Line → List Script → ℕ → Done → List ℕ → Type 0
IsMarginText line scripts param done.Good text = IsMarginAnswer line scripts param true text
IsMarginText line scripts param done.SomeUndecided text =
    IsMarginAnswer line scripts param false text
IsMarginText line scripts param s text = ⊥

abbrev pub margin_answer : Line → List Script → ℕ → Answers
margin_answer line scripts param = IsMarginText line scripts param
