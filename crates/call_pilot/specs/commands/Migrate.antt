-- The command `migrate`.
use Rattle.model_line.specs.declared.line.Line.{Line}
use Rattle.call_pilot.specs.commands.Line.{IsLineText}
use Rattle.call_answer.specs.{Answers.Answers, Answers.prints}

-- with times in microseconds
abbrev pub migrate_answer : Line → Answers
migrate_answer line = prints (IsLineText 2 line)
