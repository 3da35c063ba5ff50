-- The command `net`.
use Rattle.std.specs.Prelude.{◌≡◌, ℕ, List}
use Rattle.model_line.specs.declared.line.Line.{Line}
use Rattle.net_gates.specs.NetOf.{NetOf, IsNetOf}
use Rattle.net_compile.specs.NetText.{net_text_of}
use Rattle.call_answer.specs.Answers.{Answers, prints}

-- the text of a net of the line: its gates, and each terminal's key gate and trip gate, which stand
-- for the line's key trees and trip trees
pub record IsNetText (line : Line) (text : List ℕ) : Type 0 where
  pub net : NetOf
  pub of_line : IsNetOf line net
  pub text_is : text ≡ net_text_of line net

abbrev pub net_answer : Line → Answers
net_answer line = prints (IsNetText line)
