-- What changed of a fault at a terminal.
use Rattle.std.specs.Prelude.{Bool, true, false, ◌&&◌, List, ℕ, Option, None, Some, codes}
use Rattle.std.specs.Prelude.{if◌then◌else◌}
use Rattle.std.specs.Str.{bytes_eq}
use Rattle.call_columns.specs.Fields.{Fields}
use Rattle.call_compare.specs.Versions.{named, same_in}
use Rattle.call_compare.specs.declared.change.Change.{Change}
use Rattle.call_compare.specs.declared.change.Change.TheVariants.{Lost, Other, Gained, Added, Gone, Same}

abbrev pub word_of : Change → List ℕ
word_of Lost = codes "lost"
word_of Other = codes "changed"
word_of Gained = codes "gained"
word_of Added = codes "added"
word_of Gone = codes "gone"
word_of Same = codes "same"

-- a fault is held at a terminal where none of its scripts fails and none is open
unfoldable pub is_held : List Fields → Fields → Bool
is_held table row = bytes_eq (named (codes "fails") table row) (codes "0")
    && bytes_eq (named (codes "open") table row) (codes "0")

unfoldable pub is_same : List ℕ → List Fields → Fields → List Fields → Fields → Bool
is_same name old was new now = bytes_eq (named name old was) (named name new now)

-- the counts, where it is not held, and when it trips
unfoldable pub are_same : List Fields → Fields → List Fields → Fields → Bool
are_same old was new now = is_same (codes "held") old was new now
    && is_same (codes "fails") old was new now && is_same (codes "open") old was new now
    && is_same (codes "not_held_ms") old was new now && is_same (codes "trip_ms") old was new now
    && is_same (codes "margin_ms") old was new now

abbrev pub change_by : Bool → Bool → Bool → Change
change_by true true same = if same then Same else Other
change_by true false same = Lost
change_by false true same = Gained
change_by false false same = if same then Same else Other

-- from the record before, if there is one
abbrev pub change_from : List Fields → Option Fields → List Fields → Fields → Change
change_from old None new now = Added
change_from old (Some was) new now =
    change_by (is_held old was) (is_held new now) (are_same old was new now)

unfoldable pub change_of : List Fields → List Fields → Fields → Change
change_of old new now = change_from old (same_in old new now) new now
