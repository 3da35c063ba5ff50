-- The line of a record under columns.
use Rattle.std.specs.Prelude.{ℕ, ◌-◌, Bool, true, false, List, [], ◌∷◌, ◌++◌, length, codes}
use Rattle.std.specs.Prelude.{if◌then◌else◌}
use Rattle.std.specs.Str.{bytes_eq}
use Rattle.base_records.specs.Fields.{is_empty}
use Rattle.call_columns.specs.Fields.{Fields, field_of, blanks, space}
use Rattle.call_columns.specs.declared.column.{Column.Column, Kind.Kind}
use Rattle.call_columns.specs.declared.column.Kind.TheVariants.{Answer, Fails, Open, Other}
use Rattle.call_columns.specs.declared.tone.Tone.{Tone}
use Rattle.call_columns.specs.declared.tone.Tone.TheVariants.{Plain, Held, Failing, Unsure}

-- how a field is told: an answer by its word, a count where it isn't 0
abbrev pub tone_of : Kind → List ℕ → Tone
tone_of Answer field =
    if bytes_eq field (codes "held") then Held
    else if bytes_eq field (codes "fails") then Failing
    else if bytes_eq field (codes "open") then Unsure
    else Plain
tone_of Fails field = if bytes_eq field (codes "0") then Plain else Failing
tone_of Open field = if bytes_eq field (codes "0") then Plain else Unsure
tone_of Other field = Plain

-- what a terminal takes for green, red, yellow, and no colour
abbrev pub begins_tone : Tone → List ℕ
begins_tone Plain = []
begins_tone Held = 27 ∷ codes "[32m"
begins_tone Failing = 27 ∷ codes "[31m"
begins_tone Unsure = 27 ∷ codes "[33m"

abbrev pub ends_tone : Tone → List ℕ
ends_tone Plain = []
ends_tone Held = 27 ∷ codes "[0m"
ends_tone Failing = 27 ∷ codes "[0m"
ends_tone Unsure = 27 ∷ codes "[0m"

abbrev pub told_in : Tone → List ℕ → List ℕ
told_in tone field = begins_tone tone ++ field ++ ends_tone tone

abbrev pub tone_if : Bool → Kind → List ℕ → Tone
tone_if true kind field = tone_of kind field
tone_if false kind field = Plain

-- how many blanks stand before a field of a column, and behind it
abbrev pub before : Column → List ℕ → ℕ
before column field = if column.is_right then column.width - length field else 0

abbrev pub behind : Column → List ℕ → ℕ
behind column field = if column.is_right then 0 else column.width - length field

-- a field, and the blanks before it
abbrev pub field_text : Bool → Column → List ℕ → List ℕ
field_text is_colored column field =
    blanks (before column field) ++ told_in (tone_if is_colored column.kind field) field

-- The line of a record, with a gap before what stands in it next: blanks that nothing follows are
-- left out.
abbrev pub line_behind : Bool → List ℕ → List Column → Fields → List ℕ
line_behind is_colored gap [] row = codes "\n"
line_behind is_colored gap (column ∷ columns) row =
    if is_empty (field_of row column.place)
    then line_behind is_colored (gap ++ blanks column.width ++ space) columns row
    else gap ++ field_text is_colored column (field_of row column.place)
    ++ line_behind is_colored (blanks (behind column (field_of row column.place)) ++ space) columns
    row

abbrev pub line_of : Bool → List Column → Fields → List ℕ
line_of is_colored columns row = line_behind is_colored [] columns row
