-- The command `match`: a line for each head of a record file, in file order.
use Rattle.std.specs.Prelude.{◌≡◌, ℕ, Bool, List}
use Rattle.model_line.specs.{declared.line.Line.Line, declared.script.Script.Script}
use Rattle.judge_match.specs.{matching.Answer.IsMatchAnswer, matching.Waves.SeenValues}
use Rattle.call_answer.specs.{Answers.Answers, Answers.status_by, declared.done.Done.Done}

-- the lines of all heads, with the status that they give
pub record IsMatched
    (line : Line) (scripts : List Script) (records : List SeenValues) (s : Done) (text : List ℕ)
    : Type 0 where
  pub some_impossible : Bool
  pub some_open : Bool
  pub settled : IsMatchAnswer line scripts records some_impossible some_open text
  pub status_is : s ≡ status_by some_impossible some_open

abbrev pub match_answer : Line → List Script → List SeenValues → Answers
match_answer line scripts records = IsMatched line scripts records
