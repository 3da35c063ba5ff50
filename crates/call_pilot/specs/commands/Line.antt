-- The command `line`.
use Rattle.std.specs.Prelude.{◌≡◌, ℕ, false, List, Ok}
use Rattle.toml.specs.Text.{IsDocumentText}
use Rattle.model_line.specs.declared.line.Line.{Line}
use Rattle.file_line.specs.{Canonical.canonical, LineFiles.line_of, Lines.line_values}
use Rattle.call_answer.specs.Answers.{Answers, prints}

-- a document of the line's canonical table of that version, which is read as the same line
pub record IsLineText (version : ℕ) (line : Line) (text : List ℕ) : Type 0 where
  pub document : IsDocumentText false (canonical version line) text
  pub reads_back : line_of text ≡ Ok (line_values line)

-- with times in ticks
abbrev pub line_answer : Line → Answers
line_answer line = prints (IsLineText 1 line)
