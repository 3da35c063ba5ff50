-- Two versions side by side: what was held and is not first.
use Rattle.std.specs.Prelude.{ℕ, Bool, true, false, List, [], ◌∷◌, ◌++◌, Option, None, Some, codes}
use Rattle.std.specs.Prelude.{if◌then◌else◌}
use Rattle.std.specs.List.{flat_map}
use Rattle.std.specs.Str.{bytes_eq}
use Rattle.csv.specs.Writing.{row_text, default_writer}
use Rattle.base_records.specs.Records.{records_of}
use Rattle.call_columns.specs.Fields.{Fields}
use Rattle.call_compare.specs.Changes.{change_of, word_of}
use Rattle.call_compare.specs.Versions.{named, named_or, rows_of, same_in}
use Rattle.call_compare.specs.declared.change.Change.{Change}
use Rattle.call_compare.specs.declared.change.Change.TheVariants as change

abbrev pub header : List ℕ
header = codes "fault,terminal,change,held_was,held,fails_was,fails,open_was,open,not_held_ms_was,not_held_ms,margin_ms_was,margin_ms\n"

-- a record of a fault at a terminal, of before and now
abbrev pub fields_told : List ℕ → List ℕ → Change → List Fields → Option Fields → List Fields
    → Option Fields → Fields
fields_told fault terminal change old was new now =
    fault ∷ terminal ∷ word_of change
    ∷ named_or (codes "held") old was ∷ named_or (codes "held") new now
    ∷ named_or (codes "fails") old was ∷ named_or (codes "fails") new now
    ∷ named_or (codes "open") old was ∷ named_or (codes "open") new now
    ∷ named_or (codes "not_held_ms") old was ∷ named_or (codes "not_held_ms") new now
    ∷ named_or (codes "margin_ms") old was ∷ named_or (codes "margin_ms") new now ∷ []

unfoldable pub told : List Fields → Fields → Change → List Fields → Option Fields → List Fields
    → Option Fields → List ℕ
told table row change old was new now = row_text default_writer
    (fields_told (named (codes "fault") table row) (named (codes "terminal") table row) change old
    was new now)

unfoldable pub is_of : Change → Change → Bool
is_of group change = bytes_eq (word_of group) (word_of change)

-- a record of now, where its change is of this group
unfoldable pub told_in : Change → List Fields → List Fields → Fields → List ℕ
told_in group old new now =
    if is_of group (change_of old new now)
    then told new now group old (same_in old new now) new (Some now) else []

unfoldable pub group_told : Change → List Fields → List Fields → List ℕ
group_told group old new = flat_map (told_in group old new) (rows_of new)

-- a record of before that is not there now
abbrev pub told_unless : List Fields → Fields → List Fields → Option Fields → List ℕ
told_unless old was new None = told old was change.Gone old (Some was) new None
told_unless old was new (Some now) = []

unfoldable pub told_gone : List Fields → List Fields → Fields → List ℕ
told_gone old new was = told_unless old was new (same_in new old was)

unfoldable pub gone_told : List Fields → List Fields → List ℕ
gone_told old new = flat_map (told_gone old new) (rows_of old)

abbrev pub table_told : List Fields → List Fields → List ℕ
table_told old new = header ++ group_told change.Lost old new ++ group_told change.Other old new
    ++ group_told change.Gained old new ++ group_told change.Added old new ++ gone_told old new
    ++ group_told change.Same old new

-- something that was held is not now, of these records of now
abbrev pub are_lost : List Fields → List Fields → List Fields → Bool
are_lost old new [] = false
are_lost old new (now ∷ rows) =
    if is_of change.Lost (change_of old new now) then true else are_lost old new rows

abbrev pub is_lost : List Fields → List Fields → Bool
is_lost old new = are_lost old new (rows_of new)

-- of two texts of verdicts by fault (CSV)
abbrev pub compared_text : List ℕ → List ℕ → List ℕ
compared_text old new = table_told (records_of old) (records_of new)

abbrev pub loses : List ℕ → List ℕ → Bool
loses old new = is_lost (records_of old) (records_of new)
