-- Where the keys of a line's tables stand, in the document that the user wrote.
use Rattle.std.specs.Prelude.{ℕ, List, [], Option, None, Some, Result, Ok, Err, get_or, is_some}
use Rattle.std.specs.Prelude.{if◌then◌else◌}
use Rattle.toml.specs.Data.{Data, Members, get_member}
use Rattle.toml.specs.View.{table_view}
use Rattle.base_memory.specs.Gives.{◌>>=◌}
use Rattle.file_document.specs.declared.fault.DocumentFault.{DocumentFault}
use Rattle.file_document.specs.declared.fault.DocumentFault.TheVariants as fault
use Rattle.file_document.specs.Paths.{under, numbered}
use Rattle.file_document.specs.Keys.{first_unknown, required, text_in}
use Rattle.file_line.specs.declared.places.TablePlaces.{TablePlaces}

-- The path of a table, and of each of its keys.
pub record Places : Type 0 where
  pub table : List ℕ
  pub key : List ℕ → List ℕ

-- in the table at a path
abbrev pub in_table : List ℕ → Places
in_table path = record { table = path; key = under path }

-- What the first table has stands in that one, and every other key in the table at the second path.
abbrev pub in_either : List ℕ → Members → List ℕ → Places
in_either own_path own path = record {
  table = path;
  key = λ key. if is_some (get_member key own) then under own_path key else under path key;
}

-- what the reader is told of them
abbrev pub places_of : TablePlaces → Places
places_of p = in_either p.own_path (table_view p.own.now) p.path

-- Of item i of an array at the top: those that are told, or else its own path.
abbrev pub places_in : List ℕ → List Places → ℕ → Places
places_in array told i = get_or told i (in_table (numbered (under [] array) i))

-- ---- what stands there

abbrev pub unknown_there : Places → Option (List ℕ) → Result (Unit {0}) DocumentFault
unknown_there places None = Ok tt
unknown_there places (Some key) = Err (fault.Unknown (places.key key))

-- the table has only these keys; the least other one is told
unfoldable pub only_keys : Places → List (List ℕ) → Members → Result (Unit {0}) DocumentFault
only_keys places known ms = unknown_there places (first_unknown known ms)

-- the value of a required key
abbrev pub key_value : Places → List ℕ → Members → Result Data DocumentFault
key_value places key ms = required (places.key key) (get_member key ms)

-- a required text
unfoldable pub key_text : Places → List ℕ → Members → Result (List ℕ) DocumentFault
key_text places key ms = do
  d ← key_value places key ms
  text_in (places.key key) d
