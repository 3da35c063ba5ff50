-- What is printed of scripts is read back as them.
use Rattle.std.specs.Prelude.{◌≡◌, ◌≤◌, ℕ, List, Ok, length}
use Rattle.std.specs.List.{All}
use Rattle.model_line.specs.declared.line.Line.{Line}
use Rattle.file_tables.specs.script.Printed.{file_records, records_text}
use Rattle.file_tables.specs.{script.Scripts.scripts_of, script.SoFar.ValuesFit, script.Values.AreOfOneFile}
use Rattle.file_tables.specs.script.Values.{ScriptValues}

-- a file says these scripts of the line
abbrev pub SaysScripts : Line → List ScriptValues → List ℕ → Type 0
SaysScripts line scripts text = scripts_of line text ≡ Ok scripts

-- what is printed of scripts that fit a line and may stand in one file is read back as them
abbrev pub AreReadBack : Type 0
AreReadBack = (line : Line) (scripts : List ScriptValues) → All (ValuesFit line) scripts
    → AreOfOneFile scripts → SaysScripts line scripts (records_text (file_records line scripts))

-- and no longer than a file of scripts may be
abbrev pub AreShort : Type 0
AreShort = (line : Line) (scripts : List ScriptValues) → All (ValuesFit line) scripts
    → length scripts ≤ 64 → length (records_text (file_records line scripts)) ≤ 1048576
