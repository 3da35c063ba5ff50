-- What the table of a channel says.
use Rattle.std.specs.Prelude.{◌++◌, ◌==◌, ℕ, List, [], ◌∷◌, Option, None, Some, Result, Ok}
use Rattle.std.specs.Prelude.{Err, codes, if◌then◌else◌}
use Rattle.std.specs.Str.{bytes_eq}
use Rattle.std.specs.List.{list_any, position_from}
use Rattle.toml.specs.Data.{Data, Members, Items}
use Rattle.base_memory.specs.Gives.{◌>>=◌}
use Rattle.model_line.specs.Settings.{time_key, receiver_settings}
use Rattle.model_line.specs.{declared.line.Scheme.Scheme, declared.line.Scheme.TheVariants.Dcub}
use Rattle.model_line.specs.{declared.line.Terminal.Terminal, declared.line.Channel.Channel}
use Rattle.model_line.specs.{declared.line.Setting.TheVariants.Delay, Channels.is_pair}
use Rattle.file_document.specs.declared.fault.DocumentFault.{DocumentFault}
use Rattle.file_document.specs.declared.fault.DocumentFault.TheVariants as fault
use Rattle.file_document.specs.Keys.{table_in}
use Rattle.file_line.specs.Places.{Places, places_in, only_keys, key_text}
use Rattle.file_line.specs.Times.{group_key, time_at, required_times}
use Rattle.file_line.specs.{Lines.LineValues, Lines.items_at}

-- the keys of a channel
abbrev pub channel_keys : Scheme → List (List ℕ)
channel_keys Dcub =
    codes "from" ∷ codes "to" ∷ time_key Delay ∷ group_key (receiver_settings Dcub) ∷ []
channel_keys _ = codes "from" ∷ codes "to" ∷ time_key Delay ∷ []

-- the number of the terminal of that name
abbrev pub terminal_called : List Terminal → List ℕ → Option ℕ
terminal_called ts name = position_from (λ t. bytes_eq t.name name) 0 ts

-- a terminal that is named, as the one that sends on a channel: one of the line
abbrev pub terminal_in : List ℕ → Option ℕ → Result ℕ DocumentFault
terminal_in path None = Err (fault.BadName path)
terminal_in path (Some k) = Ok k

-- a terminal that receives: another one of the line
abbrev pub receiver : List ℕ → ℕ → Option ℕ → Result ℕ DocumentFault
receiver path from None = Err (fault.BadName path)
receiver path from (Some k) = if k == from then Err (fault.BadName path) else Ok k

-- the terminals at the two ends of a channel
unfoldable pub from_at : Places → List Terminal → Members → Result ℕ DocumentFault
from_at places ts ms = do
  name ← key_text places (codes "from") ms
  terminal_in (places.key (codes "from")) (terminal_called ts name)

unfoldable pub to_at : Places → List Terminal → ℕ → Members → Result ℕ DocumentFault
to_at places ts from ms = do
  name ← key_text places (codes "to") ms
  receiver (places.key (codes "to")) from (terminal_called ts name)

-- no earlier channel has the same ends
abbrev pub new_pair : List ℕ → List Channel → ℕ → ℕ → Result Channel DocumentFault
new_pair path before from to =
    if list_any (is_pair from to) before then Err (fault.Twice path)
    else Ok (record { from = from; to = to })

-- the ends of a channel
unfoldable pub ends_at : Places → List Terminal → List Channel → Members → Result Channel DocumentFault
ends_at places ts before ms = do
  from ← from_at places ts ms
  to ← to_at places ts from ms
  new_pair places.table before from to

-- the line with one more channel, from a table whose keys stand there
unfoldable pub channel_at : ℕ → Places → Data → LineValues → Result LineValues DocumentFault
channel_at unit places d line = do
  ms ← table_in places.table d
  _ ← only_keys places (channel_keys line.scheme) ms
  channel ← ends_at places line.terminals line.channels ms
  delay ← time_at places (time_key Delay) unit 1 ms
  whole ← required_times places (receiver_settings line.scheme) unit ms
      (line.intervals ++ delay ∷ [])
  Ok (record line { channels = line.channels ++ channel ∷ []; intervals = whole })

-- the line with these channels
abbrev pub channels_at : List Places → ℕ → Items → LineValues → Result LineValues DocumentFault
channels_at told unit ds line =
    items_at (channel_at unit) (places_in (codes "channel") told) 0 ds line
