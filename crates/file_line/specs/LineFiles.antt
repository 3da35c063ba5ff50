-- What a line file says: the values of a line, or its first fault.
use Rattle.std.specs.Prelude.{◌==◌, ℕ, List, [], ◌∷◌, Result, Ok, Err, length, codes, if◌then◌else◌}
use Rattle.std.specs.List.{list_any}
use Rattle.toml.specs.Data.{Members}
use Rattle.base_memory.specs.Gives.{◌>>=◌}
use Rattle.model_line.specs.{declared.line.Terminal.Terminal, declared.line.Channel.Channel}
use Rattle.model_line.specs.{Channels.is_pair, ParamNames.name_at}
use Rattle.file_document.specs.declared.fault.DocumentFault.{DocumentFault}
use Rattle.file_document.specs.declared.fault.DocumentFault.TheVariants as fault
use Rattle.file_document.specs.Keys.{document_of, opened, all_known, number_at}
use Rattle.file_line.specs.Places.{Places}
use Rattle.file_line.specs.Lines.{LineValues, head_of, terminal_items, channel_items}
use Rattle.file_line.specs.TerminalTables.{terminals_at}
use Rattle.file_line.specs.{Times.units_per_tick, ChannelTables.channels_at}

-- the keys at the top of the file
abbrev pub top_keys : List (List ℕ)
top_keys =
    codes "version" ∷ codes "tick_us" ∷ codes "horizon" ∷ codes "scheme" ∷ codes "zone1_trip"
    ∷ codes "terminal" ∷ codes "channel" ∷ []

-- the ordered pairs of two or of three terminals, by sender and then by receiver
abbrev pub two_pairs : List (ℕ × ℕ)
two_pairs = (0, 1) ∷ (1, 0) ∷ []

abbrev pub three_pairs : List (ℕ × ℕ)
three_pairs = (0, 1) ∷ (0, 2) ∷ (1, 0) ∷ (1, 2) ∷ (2, 0) ∷ (2, 1) ∷ []

abbrev pub pairs_of : ℕ → List (ℕ × ℕ)
pairs_of n = if n == 2 then two_pairs else three_pairs

-- a channel leads from j to k
abbrev pub pair_joined : List Terminal → List Channel → ℕ → ℕ → Result (Unit {0}) DocumentFault
pair_joined ts cs j k =
    if list_any (is_pair j k) cs then Ok tt
    else Err (fault.Channels (name_at ts j) (name_at ts k))

-- each of these pairs has a channel
abbrev pub all_joined :
    List Terminal → List Channel → List (ℕ × ℕ) → Result (Unit {0}) DocumentFault
all_joined ts cs [] = Ok tt
all_joined ts cs (pair ∷ pairs) = do
  _ ← pair_joined ts cs pair.0 pair.1
  all_joined ts cs pairs

-- each ordered pair of terminals has a channel
unfoldable pub whole : List Terminal → List Channel → Result (Unit {0}) DocumentFault
whole ts cs = all_joined ts cs (pairs_of (length ts))

-- The line with its terminals and channels, of which the head has none: the keys of their tables
-- stand where it is told.
unfoldable pub tables_in : List Places → List Places → ℕ → Members → LineValues
    → Result LineValues DocumentFault
tables_in terminal_places channel_places unit ms head = do
  terminals ← terminal_items ms
  channels ← channel_items ms
  with_terminals ← terminals_at terminal_places unit terminals head
  with_channels ← channels_at channel_places unit channels with_terminals
  _ ← whole with_channels.terminals with_channels.channels
  Ok with_channels

-- the line of a document, the keys of whose tables stand there
unfoldable pub line_at : List Places → List Places → Members → Result LineValues DocumentFault
line_at terminal_places channel_places ms = do
  version ← number_at [] (codes "version") 1 2 ms
  _ ← all_known [] top_keys ms
  head ← head_of ms
  tables_in terminal_places channel_places (units_per_tick version head.tick_us) ms head

-- the line of a line file's document: its keys stand in the document itself
abbrev pub line_in : Members → Result LineValues DocumentFault
line_in ms = line_at [] [] ms

-- the line of a file
unfoldable pub line_of : List ℕ → Result LineValues DocumentFault
line_of bytes = do
  ms ← opened (document_of bytes)
  line_in ms
