-- How often an engine was asked.
use Rattle.std.specs.Prelude.{ℕ, ◌≤◌}
use Rattle.model_line.specs.declared.line.Line.{Line}
use Rattle.file_line.specs.Lines.{LineValues, line_values}
use Rattle.base_text.specs.store.Counts.{Grew, Rose}

-- for each line, by its values, how many plays, verdicts and checks it was asked for
pub record Calls : Type 0 where
  pub plays : LineValues → ℕ
  pub certifies : LineValues → ℕ
  pub checks : LineValues → ℕ

-- no count of any line fell
pub record NoneFell (old new : Calls) : Type 0 where
  pub plays : (line : LineValues) → old.plays line ≤ new.plays line
  pub certifies : (line : LineValues) → old.certifies line ≤ new.certifies line
  pub checks : (line : LineValues) → old.checks line ≤ new.checks line

-- it was asked for a play, for verdicts, or for a check of this line
abbrev pub AskedPlay : Line → Calls → Calls → Type 0
AskedPlay line old new = Rose (old.plays (line_values line)) (new.plays (line_values line))

abbrev pub AskedCertify : Line → Calls → Calls → Type 0
AskedCertify line old new =
    Rose (old.certifies (line_values line)) (new.certifies (line_values line))

abbrev pub AskedCheck : Line → Calls → Calls → Type 0
AskedCheck line old new = Rose (old.checks (line_values line)) (new.checks (line_values line))

-- it was asked for at least that many plays or verdicts of this line; a count that stands at its
-- last value meets each number
abbrev pub AskedPlays : Line → ℕ → Calls → Calls → Type 0
AskedPlays line amount old new =
    Grew (old.plays (line_values line)) amount (new.plays (line_values line))

abbrev pub AskedVerdicts : Line → ℕ → Calls → Calls → Type 0
AskedVerdicts line amount old new =
    Grew (old.certifies (line_values line)) amount (new.certifies (line_values line))
