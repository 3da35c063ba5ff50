-- Each finding is of a script and a terminal that there are.
use Rattle.std.proofs.Common.{◌<◌, ℕ, List, length}
use Rattle.std.specs.Prelude.{get_or}
use Rattle.std.proofs.lemmas.Option.{slice_get_within, slice_get-get_or}
use Rattle.model_line.specs.{declared.line.Line.Line, declared.script.Script.Script}
use Rattle.model_line.specs.Parameters.{terminal_count}
use Rattle.call_verdicts.specs.Findings.{AreFindings}
use Rattle.call_verdicts.specs.declared.finding.Finding.{Finding}

pub script_exists : (line : Line) (scripts : List Script) (found : List Finding) (i : ℕ)
    (d : Finding) → AreFindings line scripts found → i < length found
    → (get_or found i d).script < length scripts
script_exists line scripts found i d are within =
    let one = are.each i (get_or found i d) (slice_get-get_or found i d within) in
    slice_get_within scripts (get_or found i d).script one.script one.at

pub terminal_exists : (line : Line) (scripts : List Script) (found : List Finding) (i : ℕ)
    (d : Finding) → AreFindings line scripts found → i < length found
    → (get_or found i d).terminal < terminal_count line
terminal_exists line scripts found i d are within =
    (are.each i (get_or found i d) (slice_get-get_or found i d within)).terminal
