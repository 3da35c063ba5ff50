-- The checks of one record, each of them alone.
use Rattle.std.specs.Prelude.{◌&&◌, ℕ, Bool, true, false, not, List, nat_le, nat_lt}
use Rattle.std.specs.Prelude.{codes, Option, None, Some, option_map, if◌then◌else◌}
use Rattle.std.specs.List.{list_any}
use Rattle.std.specs.Str.{bytes_eq}
use Rattle.std.proofs.lemmas.Map.Entries.{option_filter}
use Rattle.model_line.specs.declared.script.Element.TheVariants.{Z1, Z2, Rv, Uv, Cur}
use Rattle.model_line.specs.declared.script.Kind.TheVariants.{Internal, External}
use Rattle.model_line.specs.PlainNames.{is_plain_name}
use Rattle.model_line.specs.{declared.script.Kind.Kind, declared.line.Line.Line}
use Rattle.model_line.specs.{declared.script.What.What, declared.script.SeenSpan.SeenSpan}
use Rattle.model_line.specs.declared.script.What.TheVariants as what
use Rattle.model_names.specs.NumbersByName.{terminal_named, channel_named}
use Rattle.base_records.specs.{Fields.is_empty, SoFar.SoFar, SoFar.all_of}
use Rattle.base_text.specs.store.Number.{number_of}
use Rattle.file_tables.specs.declared.script.item.Item.{Item}
use Rattle.file_tables.specs.declared.script.item.Item.TheVariants.{Head, Seen, Lost}
use Rattle.file_tables.specs.{script.Row.Row, script.Values.ScriptValues}

-- the eight items: two heads, five elements and a lost channel
abbrev pub item_of : List ℕ → Option Item
item_of text =
    if bytes_eq text (codes "internal") then Some (Head Internal)
    else if bytes_eq text (codes "external") then Some (Head External)
    else if bytes_eq text (codes "z1") then Some (Seen Z1)
    else if bytes_eq text (codes "z2") then Some (Seen Z2)
    else if bytes_eq text (codes "rv") then Some (Seen Rv)
    else if bytes_eq text (codes "uv") then Some (Seen Uv)
    else if bytes_eq text (codes "cur") then Some (Seen Cur)
    else if bytes_eq text (codes "loss") then Some Lost
    else None

abbrev pub is_head : Option Item → Bool
is_head (Some (Head kind)) = true
is_head (Some (Seen element)) = false
is_head (Some Lost) = false
is_head None = false

-- the name is plain, and a head's is that of no head before it
abbrev pub is_taken : SoFar ScriptValues → List ℕ → Bool
is_taken s name = list_any (λ script. bytes_eq script.name name) (all_of s)

abbrev pub has_good_name : SoFar ScriptValues → Row → Bool
has_good_name s row =
    is_plain_name row.name && not (is_head (item_of row.item) && is_taken s row.name)

-- a row's place is a terminal, or a channel that is lost
abbrev pub what_at : Line → Item → List ℕ → Option What
what_at line (Head kind) place = None
what_at line (Seen element) place =
    option_map (λ k. what.Element (record { element = element; terminal = k }))
    (terminal_named line place)
what_at line Lost place = option_map (λ c. what.Loss c) (channel_named line place)

-- the deadline of an internal script is below the horizon; an external one has none
abbrev pub deadline_of : Line → Kind → List ℕ → List ℕ → Option ℕ
deadline_of line Internal from to =
    if is_empty to then option_filter (λ t. nat_lt t line.horizon) (number_of from) else None
deadline_of line External from to = if is_empty from && is_empty to then Some 0 else None

-- a row's span has from below to, and to at most the horizon
abbrev pub span_between : ℕ → What → Option ℕ → Option ℕ → Option SeenSpan
span_between horizon w None to = None
span_between horizon w (Some from) None = None
span_between horizon w (Some from) (Some to) =
    if nat_lt from to && nat_le to horizon then Some (record { what = w; from = from; to = to })
    else None
