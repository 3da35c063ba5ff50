-- Each row is of a script that there is.
use Rattle.std.proofs.Common.{◌<◌, ℕ, List, length}
use Rattle.std.specs.Prelude.{get_or}
use Rattle.std.proofs.lemmas.Option.{slice_get_within, slice_get-get_or}
use Rattle.model_line.specs.{declared.line.Line.Line, declared.script.Script.Script}
use Rattle.call_verdicts.specs.declared.finding.Finding.{Finding}
use Rattle.call_shots.specs.Rows.{AreRows}
use Rattle.call_shots.specs.declared.rows.Row.{Row}

pub script_exists : (line : Line) (scripts : List Script) (shots : List Finding) (rows : List Row)
    (i : ℕ) (d : Row) → AreRows line scripts shots rows → i < length rows
    → (get_or rows i d).found.script < length scripts
script_exists line scripts shots rows i d are within =
    let one = are.each i (get_or rows i d) (slice_get-get_or rows i d within) in
    slice_get_within scripts (get_or rows i d).found.script one.script one.script_at
