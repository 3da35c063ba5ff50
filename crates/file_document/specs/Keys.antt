-- The keys of a table and the values under them.
use Rattle.std.specs.Prelude.{◌&&◌, ◌+◌, ℕ, List, Bool, false, Option, None, Some, Result, Ok}
use Rattle.std.specs.Prelude.{Err, pos, negsuc, if◌then◌else◌, nat_le}
use Rattle.std.specs.Str.{bytes_eq, is_utf8}
use Rattle.std.specs.List.{list_any}
use Rattle.toml.specs.Data.{Data, string, integer, boolean, array, table, Members, no_members}
use Rattle.toml.specs.Data.{member, Items, no_items, item, get_member}
use Rattle.toml.specs.Parse.{parse_document}
use Rattle.base_memory.specs.Gives.{◌>>=◌}
use Rattle.file_document.specs.declared.fault.DocumentFault.{DocumentFault}
use Rattle.file_document.specs.declared.fault.DocumentFault.TheVariants as fault
use Rattle.file_document.specs.Paths.{under}

-- the table that the bytes stand for, where they are a TOML document
abbrev pub document_of : List ℕ → Option Members
document_of bytes = if is_utf8 bytes then parse_document bytes else None

abbrev pub opened : Option Members → Result Members DocumentFault
opened None = Err fault.NotToml
opened (Some ms) = Ok ms

-- the first key of a table that is none of these; a table's keys ascend by their bytes
abbrev pub first_unknown : List (List ℕ) → Members → Option (List ℕ)
first_unknown known no_members = None
first_unknown known (member key d rest) =
    if list_any (λ name. bytes_eq name key) known then first_unknown known rest else Some key

abbrev pub unknown_fault : List ℕ → Option (List ℕ) → Result (Unit {0}) DocumentFault
unknown_fault path None = Ok tt
unknown_fault path (Some key) = Err (fault.Unknown (under path key))

-- the table at the path has only these keys; the least other one is told
unfoldable pub all_known : List ℕ → List (List ℕ) → Members → Result (Unit {0}) DocumentFault
all_known path known ms = unknown_fault path (first_unknown known ms)

-- the value of a required key
abbrev pub required : List ℕ → Option Data → Result Data DocumentFault
required path None = Err (fault.Missing path)
required path (Some d) = Ok d

unfoldable pub value_at : List ℕ → List ℕ → Members → Result Data DocumentFault
value_at path key ms = required (under path key) (get_member key ms)

-- a whole number in these bounds
abbrev pub number_in : List ℕ → ℕ → ℕ → Data → Result ℕ DocumentFault
number_in path least greatest (integer (pos n)) =
    if nat_le least n && nat_le n greatest then Ok n else Err (fault.Range path)
number_in path least greatest (integer (negsuc n)) = Err (fault.Range path)
number_in path least greatest _ = Err (fault.WrongKind path)

unfoldable pub number_at : List ℕ → List ℕ → ℕ → ℕ → Members → Result ℕ DocumentFault
number_at path key least greatest ms = do
  d ← value_at path key ms
  number_in (under path key) least greatest d

-- one that may be absent
abbrev pub number_or_none : List ℕ → ℕ → ℕ → Option Data → Result (Option ℕ) DocumentFault
number_or_none path least greatest None = Ok None
number_or_none path least greatest (Some d) = do
  n ← number_in path least greatest d
  Ok (Some n)

-- a text
abbrev pub text_in : List ℕ → Data → Result (List ℕ) DocumentFault
text_in path (string text) = Ok text
text_in path _ = Err (fault.WrongKind path)

unfoldable pub text_at : List ℕ → List ℕ → Members → Result (List ℕ) DocumentFault
text_at path key ms = do
  d ← value_at path key ms
  text_in (under path key) d

-- a truth value, false where the key is absent
abbrev pub flag_or_false : List ℕ → Option Data → Result Bool DocumentFault
flag_or_false path None = Ok false
flag_or_false path (Some (boolean b)) = Ok b
flag_or_false path (Some d) = Err (fault.WrongKind path)

-- an array
abbrev pub array_in : List ℕ → Data → Result Items DocumentFault
array_in path (array ds) = Ok ds
array_in path _ = Err (fault.WrongKind path)

unfoldable pub array_at : List ℕ → List ℕ → Members → Result Items DocumentFault
array_at path key ms = do
  d ← value_at path key ms
  array_in (under path key) d

-- one that may be absent, and has no items then
abbrev pub array_or_none : List ℕ → Option Data → Result Items DocumentFault
array_or_none path None = Ok no_items
array_or_none path (Some d) = array_in path d

-- how many items
abbrev pub count_of : Items → ℕ
count_of no_items = 0
count_of (item d ds) = count_of ds + 1

-- so many items at least, and so many at most
abbrev pub counted : List ℕ → ℕ → ℕ → Items → Result Items DocumentFault
counted path least greatest ds =
    if nat_le least (count_of ds) && nat_le (count_of ds) greatest then Ok ds
    else Err (fault.Range path)

-- a table
abbrev pub table_in : List ℕ → Data → Result Members DocumentFault
table_in path (table ms) = Ok ms
table_in path _ = Err (fault.WrongKind path)

-- one that may be absent
abbrev pub table_or_none : List ℕ → Option Data → Result (Option Members) DocumentFault
table_or_none path None = Ok None
table_or_none path (Some d) = do
  ms ← table_in path d
  Ok (Some ms)

-- the value at a key of a table that may be absent
abbrev pub member_of : List ℕ → Option Members → Option Data
member_of key None = None
member_of key (Some ms) = get_member key ms

-- a table that may be absent has only these keys
abbrev pub none_unknown : List ℕ → List (List ℕ) → Option Members → Result (Unit {0}) DocumentFault
none_unknown path known None = Ok tt
none_unknown path known (Some ms) = all_known path known ms
