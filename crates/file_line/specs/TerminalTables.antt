-- What the table of a terminal says.
use Rattle.std.specs.Prelude.{◌++◌, ◌&&◌, ℕ, true, not, List, [], ◌∷◌, Result, Ok, Err, codes}
use Rattle.std.specs.Prelude.{is_some, if◌then◌else◌, map}
use Rattle.std.specs.Str.{bytes_eq}
use Rattle.std.specs.List.{list_any}
use Rattle.toml.specs.Data.{Data, Members, Items, get_member}
use Rattle.base_memory.specs.Gives.{◌>>=◌}
use Rattle.model_line.specs.declared.line.Scheme.TheVariants.{Pott, Putt, Dcb, Dcub, Dtt}
use Rattle.model_line.specs.Settings.{zone1_settings, zone2_settings, reverse_settings}
use Rattle.model_line.specs.Settings.{undervoltage_settings, guard_settings, weak_settings}
use Rattle.model_line.specs.Settings.{scheme_settings}
use Rattle.model_line.specs.{declared.line.Scheme.Scheme, declared.line.Setting.Setting}
use Rattle.model_line.specs.{declared.bounds.Bounds.Bounds, declared.line.Terminal.Terminal}
use Rattle.model_line.specs.{PlainNames.is_plain_name, Terminals.has_flags}
use Rattle.file_document.specs.declared.fault.DocumentFault.{DocumentFault}
use Rattle.file_document.specs.declared.fault.DocumentFault.TheVariants as fault
use Rattle.file_document.specs.{Keys.table_in}
use Rattle.file_line.specs.Places.{Places, places_in, only_keys, key_text}
use Rattle.file_line.specs.Times.{group_key, optional_times, required_times}
use Rattle.file_line.specs.Lines.{LineValues, items_at}

-- what a terminal may have besides its elements, by the scheme
abbrev pub groups_besides : Scheme → List (List Setting)
groups_besides Pott = guard_settings true ∷ weak_settings true ∷ []
groups_besides Putt = []
groups_besides Dcb = scheme_settings Dcb ∷ []
groups_besides Dcub = guard_settings true ∷ weak_settings true ∷ []
groups_besides Dtt = scheme_settings Dtt ∷ []

-- the keys of a terminal
abbrev pub terminal_keys : Scheme → List (List ℕ)
terminal_keys scheme =
    codes "name"
    ∷ map group_key
    (zone1_settings ∷ zone2_settings ∷ reverse_settings ∷ undervoltage_settings
    ∷ groups_besides scheme)

-- a name that is plain, and no earlier terminal's
abbrev pub name_in : List ℕ → List Terminal → List ℕ → Result (List ℕ) DocumentFault
name_in path before name =
    if not (is_plain_name name) then Err (fault.BadName path)
    else if list_any (λ t. bytes_eq t.name name) before then Err (fault.Twice path)
    else Ok name

-- the terminal's name
unfoldable pub name_at : Places → List Terminal → Members → Result (List ℕ) DocumentFault
name_at places before ms = do
  name ← key_text places (codes "name") ms
  name_in (places.key (codes "name")) before name

-- a table that is absent has no intervals; that of an element has then no pickup and no dropout
abbrev pub no_times : List Bounds
no_times = record { least = 0; greatest = 0 } ∷ record { least = 0; greatest = 0 } ∷ []

-- the pickup and dropout of an element
abbrev pub element_times :
    Places → List Setting → ℕ → Members → List Bounds → Result (List Bounds) DocumentFault
element_times places xs unit ms done = optional_times no_times places xs unit ms done

-- those of the four elements
unfoldable pub elements_times :
    Places → ℕ → Members → List Bounds → Result (List Bounds) DocumentFault
elements_times places unit ms done = do
  z1 ← element_times places zone1_settings unit ms done
  z2 ← element_times places zone2_settings unit ms z1
  rv ← element_times places reverse_settings unit ms z2
  element_times places undervoltage_settings unit ms rv

-- the times of the guard against a current reversal and of the echo, where they stand
unfoldable pub permissive_times :
    Places → ℕ → Members → List Bounds → Result (List Bounds) DocumentFault
permissive_times places unit ms done = do
  reversal ← optional_times [] places (guard_settings true) unit ms done
  optional_times [] places (weak_settings true) unit ms reversal

-- the times that a terminal has besides, by the scheme
abbrev pub scheme_times :
    Scheme → Places → ℕ → Members → List Bounds → Result (List Bounds) DocumentFault
scheme_times scheme places unit ms done =
    if has_flags scheme then permissive_times places unit ms done
    else required_times places (scheme_settings scheme) unit ms done

-- A terminal is weak where it has the table of an echo, and guarded where it has that of a guard.
abbrev pub terminal_named : Scheme → Members → List ℕ → Terminal
terminal_named scheme ms name =
    record {
      name = name;
      weak = has_flags scheme && is_some (get_member (group_key (weak_settings true)) ms);
      guard = has_flags scheme && is_some (get_member (group_key (guard_settings true)) ms);
    }

-- the line with one more terminal, from a table whose keys stand there
unfoldable pub terminal_at : ℕ → Places → Data → LineValues → Result LineValues DocumentFault
terminal_at unit places d line = do
  ms ← table_in places.table d
  _ ← only_keys places (terminal_keys line.scheme) ms
  name ← name_at places line.terminals ms
  elements ← elements_times places unit ms line.intervals
  whole ← scheme_times line.scheme places unit ms elements
  Ok (record line {
    terminals = line.terminals ++ terminal_named line.scheme ms name ∷ [];
    intervals = whole;
  })

-- the line with these terminals
abbrev pub terminals_at : List Places → ℕ → Items → LineValues → Result LineValues DocumentFault
terminals_at told unit ds line =
    items_at (terminal_at unit) (places_in (codes "terminal") told) 0 ds line
