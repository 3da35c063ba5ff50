-- Which record of a file is asked about.
use Rattle.std.specs.Prelude.{◌==◌, ℕ, List, [], ◌∷◌, Option, None, Some, Result, Ok, Err, length}
use Rattle.std.specs.Prelude.{if◌then◌else◌}
use Rattle.judge_match.specs.matching.Waves.{SeenValues}
use Rattle.call_work.specs.declared.explain.unpicked.Unpicked.{Unpicked}
use Rattle.call_work.specs.declared.explain.unpicked.Unpicked.TheVariants.{Several, Missing}

-- the first record of a script
abbrev pub record_of : ℕ → List SeenValues → Result SeenValues Unpicked
record_of script [] = Err Missing
record_of script (r ∷ more) = if r.script == script then Ok r else record_of script more

-- the record of the script that is named; where none is, the one record that there is
abbrev pub picked : Option ℕ → List SeenValues → Result SeenValues Unpicked
picked (Some script) records = record_of script records
picked None (r ∷ []) = Ok r
picked None records = Err (Several (length records))
