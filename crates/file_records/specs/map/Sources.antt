-- The digital channels that tell a signal.
use Rattle.std.specs.Prelude.{◌+◌, ◌++◌, ◌==◌, ℕ, Bool, true, false, List, [], ◌∷◌, Option}
use Rattle.std.specs.Prelude.{None, Some, Result, Ok, Err, codes, nat_lt, if◌then◌else◌}
use Rattle.toml.specs.Data.{Data, string, array, table, Members, Items, no_items, item, get_member}
use Rattle.base_memory.specs.Gives.{◌>>=◌}
use Rattle.base_text.specs.store.Number.{number_of}
use Rattle.file_document.specs.declared.fault.DocumentFault.{DocumentFault}
use Rattle.file_document.specs.declared.fault.DocumentFault.TheVariants as fault
use Rattle.file_records.specs.declared.map.source.{ChannelName.ChannelName, Signal.Signal, Source.Source}
use Rattle.file_records.specs.declared.map.source.ChannelName.TheVariants as code
use Rattle.file_document.specs.{Paths.under, Paths.numbered, Keys.all_known, Keys.text_at}
use Rattle.file_document.specs.Keys.{flag_or_false}

-- a channel by its id, or by its number, which is 1 for the first digital channel
pub data ChannelSaid : Type 0 where
  id : List ℕ → ChannelSaid
  number : ℕ → ChannelSaid

abbrev pub channel_said : ChannelName → ChannelSaid
channel_said (code.Id bytes) = id bytes.items
channel_said (code.Number n) = number n

-- a source of a signal: it is on where its channel is on, or, where it is inverted, where its channel
-- is off
pub record SourceValues : Type 0 where
  pub signal : Signal
  pub channel : ChannelSaid
  pub inverted : Bool

abbrev pub source_values : Source → SourceValues
source_values s =
    record { signal = s.signal; channel = channel_said s.channel; inverted = s.inverted }

abbrev pub numbered_source : List ℕ → Signal → Bool → Option ℕ → Result SourceValues DocumentFault
numbered_source path signal inverted None = Err (fault.BadName path)
numbered_source path signal inverted (Some n) =
    if nat_lt 0 n then Ok (record { signal = signal; channel = number n; inverted = inverted })
    else Err (fault.BadName path)

-- a channel's id, or `#` and its number
abbrev pub plain_source : List ℕ → Signal → Bool → List ℕ → Result SourceValues DocumentFault
plain_source path signal inverted [] = Err (fault.BadName path)
plain_source path signal inverted (b ∷ bytes) =
    if b == 35 then numbered_source path signal inverted (number_of bytes)
    else Ok (record { signal = signal; channel = id (b ∷ bytes); inverted = inverted })

-- behind a `!` where it is inverted
abbrev pub text_source : List ℕ → Signal → List ℕ → Result SourceValues DocumentFault
text_source path signal [] = Err (fault.BadName path)
text_source path signal (b ∷ bytes) =
    if b == 33 then plain_source path signal true bytes
    else plain_source path signal false (b ∷ bytes)

abbrev pub source_keys : List (List ℕ)
source_keys = codes "id" ∷ codes "inverted" ∷ []

-- `{ id = .., inverted = .. }`, for any id
unfoldable pub table_source : List ℕ → Signal → Members → Result SourceValues DocumentFault
table_source path signal ms = do
  _ ← all_known path source_keys ms
  bytes ← text_at path (codes "id") ms
  inverted ← flag_or_false (under path (codes "inverted")) (get_member (codes "inverted") ms)
  Ok (record { signal = signal; channel = id bytes; inverted = inverted })

abbrev pub source_in : List ℕ → Signal → Data → Result SourceValues DocumentFault
source_in path signal (string text) = text_source path signal text
source_in path signal (table ms) = table_source path signal ms
source_in path signal _ = Err (fault.WrongKind path)

-- the sources of an array, from item i on, behind those that are there
unfoldable pub sources_in : List ℕ → Signal → ℕ → Items → List SourceValues
    → Result (List SourceValues) DocumentFault
sources_in path signal i no_items done = Ok done
sources_in path signal i (item d ds) done = do
  source ← source_in (numbered path i) signal d
  sources_in path signal (i + 1) ds (done ++ source ∷ [])

unfoldable pub one_source : List ℕ → Signal → Data → List SourceValues
    → Result (List SourceValues) DocumentFault
one_source path signal d done = do
  source ← source_in path signal d
  Ok (done ++ source ∷ [])

-- one source, or an array of them
abbrev pub sources_of : List ℕ → Signal → Data → List SourceValues
    → Result (List SourceValues) DocumentFault
sources_of path signal (array ds) done = sources_in path signal 0 ds done
sources_of path signal d done = one_source path signal d done
