-- Why records come to no script.
use Rattle.std.specs.Prelude.{◌≡◌, ◌<◌, List, [], length}
use Rattle.model_line.specs.declared.script.SeenSpan.{SeenSpan}
use Rattle.file_records.specs.declared.recorded.script.NoScript.{NoScript}
use Rattle.file_records.specs.declared.recorded.script.NoScript.TheVariants as none

-- by the spans that are told: there are more than 200, or none
abbrev pub HasNoScript : List SeenSpan → NoScript → Type 0
HasNoScript spans none.TooMany = 200 < length spans
HasNoScript spans none.Nothing = spans ≡ []
