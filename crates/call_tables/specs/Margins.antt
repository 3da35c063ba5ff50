-- What the command `margins` answers.
use Rattle.std.specs.Prelude.{◌≡◌, ℕ, List, [], ◌∷◌, length}
use Rattle.model_line.specs.{declared.line.Line.Line, declared.script.Script.Script}
use Rattle.judge_report.specs.declared.upper_end.Lost.{Lost}
use Rattle.judge_margins.specs.{margins.Ends.AreEnds, margins.Today.AreToday}
use Rattle.judge_margins.specs.declared.margins.end.End.{End}
use Rattle.judge_slacks.specs.{Lacks.AreLacks, declared.lack.Lack.Lack}
use Rattle.call_answer.specs.{Answers.Answers, declared.done.Done.Done}
use Rattle.call_answer.specs.declared.done.Done.TheVariants as done
use Rattle.call_tables.specs.Slacks.{slacks_text}

-- 2 where some obligations are not held today
abbrev pub status_with : List Lost → Done
status_with [] = done.Good
status_with (other ∷ others) = done.SomeUndecided

-- the records of both ends of each parameter: how far each can be moved outward over the obligations
-- that are held today, and how far inward it has to be for those that are not
pub record AreMargins (line : Line) (scripts : List Script) (status : Done) (text : List ℕ)
    : Type 0 where
  pub held : List Lost
  pub others : List Lost
  pub today : AreToday line scripts (length scripts) 0 held others
  pub ends : List End
  pub are : AreEnds line scripts held (length held) ends
  pub lacks : List Lack
  pub lack : AreLacks line scripts others lacks
  pub status_is : status ≡ status_with others
  pub text_is : text ≡ slacks_text line scripts ends lacks

abbrev pub margins_answer : Line → List Script → Answers
margins_answer line scripts = AreMargins line scripts
