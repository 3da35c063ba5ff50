-- What is so of the line and of the scripts that two files say.
use Rattle.std.specs.Prelude.{◌≡◌, ℕ, List, Ok, map}
use Rattle.model_line.specs.{declared.line.Line.Line, declared.script.Script.Script}
use Rattle.file_line.specs.{LineFiles.line_of, Lines.line_values}
use Rattle.file_tables.specs.{script.Scripts.scripts_of, script.Values.AreOfOneFile, script.Values.values_of}
use Rattle.cert_own.specs.Printed.{HoldsOf}

-- the bytes of a line file and of a scripts file say this line and these scripts: all their values,
-- so that two lines that they say differ at most in how much room their lists have
pub record AreSaid (line_bytes scripts_bytes : List ℕ) (line : Line) (scripts : List Script)
    : Type 0 where
  pub line_is : line_of line_bytes ≡ Ok (line_values line)
  pub scripts_are : scripts_of line scripts_bytes ≡ Ok (map values_of scripts)

-- the files say a line, and scripts of which no two have one name; and of the line and the scripts
-- that they say, whichever with these values, this holds
pub record InFiles (line_bytes scripts_bytes : List ℕ) (Fact : Line → List Script → Type 0)
    : Type 0 where
  pub line : Line
  pub scripts : List Script
  pub are_said : AreSaid line_bytes scripts_bytes line scripts
  pub once : AreOfOneFile (map values_of scripts)
  pub holds : (of : Line) (all : List Script) → AreSaid line_bytes scripts_bytes of all
      → Fact of all

-- this holds of the obligation of the script and at the terminal with these names
abbrev pub HoldsInFiles : List ℕ → List ℕ → List ℕ → List ℕ → (Line → Script → ℕ → Type 0) → Type 0
HoldsInFiles line_bytes scripts_bytes name terminal Fact =
    InFiles line_bytes scripts_bytes (λ line scripts. HoldsOf line scripts name terminal Fact)
