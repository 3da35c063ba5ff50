-- The signals that a recorder tells: what its terminal saw, keyed and tripped.
use Rattle.std.specs.Prelude.{◌+◌, ◌++◌, ℕ, List, [], ◌∷◌, Option, None, Some, Result, Ok}
use Rattle.std.specs.Prelude.{codes, map, remove}
use Rattle.toml.specs.Data.{Data, Members, get_member}
use Rattle.model_line.specs.{declared.line.Line.Line, declared.line.Terminal.Terminal}
use Rattle.model_line.specs.declared.script.{Element.Element}
use Rattle.model_line.specs.declared.script.Element.TheVariants.{Z1, Z2, Rv, Uv, Cur}
use Rattle.model_line.specs.declared.script.What.TheVariants as what
use Rattle.model_line.specs.{Channels.channel_number, Terminals.names_of}
use Rattle.base_memory.specs.Gives.{◌>>=◌}
use Rattle.file_document.specs.declared.fault.DocumentFault.{DocumentFault}
use Rattle.file_records.specs.declared.map.source.{Signal.Signal, Signals.Signals}
use Rattle.file_records.specs.declared.map.source.Signal.TheVariants.{Shown, Key, Trip}
use Rattle.file_records.specs.{map.Sources.SourceValues}
use Rattle.file_document.specs.{Paths.under, Keys.all_known, Keys.table_in}
use Rattle.file_records.specs.{map.Sources.source_values, map.Sources.sources_of}

-- The signals that are told, and what tells them: a signal is on where one of its sources is. One that
-- is told and has no source is known to be off.
pub record SignalsValues : Type 0 where
  pub told : List Signal
  pub sources : List SourceValues

abbrev pub signals_values : Signals → SignalsValues
signals_values s = record { told = s.told.items; sources = map source_values s.sources.items }

abbrev pub nothing_told : SignalsValues
nothing_told = record { told = []; sources = [] }

unfoldable pub with_sources : List ℕ → Signal → Data → SignalsValues → Result SignalsValues DocumentFault
with_sources path signal d done = do
  sources ← sources_of path signal d done.sources
  Ok (record { told = done.told ++ signal ∷ []; sources = sources })

abbrev pub said_or_not : List ℕ → Signal → Option Data → SignalsValues
    → Result SignalsValues DocumentFault
said_or_not path signal None done = Ok done
said_or_not path signal (Some d) done = with_sources path signal d done

-- the signal under a key, behind those that are there; where the key is absent it isn't told
abbrev pub signal_under : List ℕ → List ℕ → Signal → Members → SignalsValues
    → Result SignalsValues DocumentFault
signal_under path key signal ms done =
    said_or_not (under path key) signal (get_member key ms) done

abbrev pub shown : Element → ℕ → Signal
shown element k = Shown (what.Element (record { element = element; terminal = k }))

-- what terminal k sees
unfoldable pub elements_of : List ℕ → ℕ → Members → SignalsValues
    → Result SignalsValues DocumentFault
elements_of path k ms done = do
  a ← signal_under path (codes "z1") (shown Z1 k) ms done
  b ← signal_under path (codes "z2") (shown Z2 k) ms a
  c ← signal_under path (codes "rv") (shown Rv k) ms b
  d ← signal_under path (codes "uv") (shown Uv k) ms c
  signal_under path (codes "cur") (shown Cur k) ms d

-- the loss of the channel from a terminal, under its name; there is none from a terminal to itself
abbrev pub loss_under : List ℕ → List ℕ → Option ℕ → Members → SignalsValues
    → Result SignalsValues DocumentFault
loss_under path name None ms done = Ok done
loss_under path name (Some c) ms done = signal_under path name (Shown (what.Loss c)) ms done

-- of the channels to terminal k from these terminals, of which the first has number j
unfoldable pub losses_from : Line → List ℕ → ℕ → Members → ℕ → List Terminal → SignalsValues
    → Result SignalsValues DocumentFault
losses_from line path k ms j [] done = Ok done
losses_from line path k ms j (t ∷ ts) done = do
  more ← loss_under path t.name (channel_number line.channels.items j k) ms done
  losses_from line path k ms (j + 1) ts more

-- the names of the other terminals
abbrev pub other_names : Line → ℕ → List (List ℕ)
other_names line k = remove (names_of line.terminals.items) k

unfoldable pub losses_in : Line → List ℕ → ℕ → Data → SignalsValues
    → Result SignalsValues DocumentFault
losses_in line path k d done = do
  ms ← table_in path d
  _ ← all_known path (other_names line k) ms
  losses_from line path k ms 0 line.terminals.items done

abbrev pub losses_or_none : Line → List ℕ → ℕ → Option Data → SignalsValues
    → Result SignalsValues DocumentFault
losses_or_none line path k None done = Ok done
losses_or_none line path k (Some d) done = losses_in line path k d done

-- what is told of terminal k: its elements, the channels to it that are lost, its key and its trip
unfoldable pub signals_of : Line → List ℕ → ℕ → Members → Result SignalsValues DocumentFault
signals_of line path k ms = do
  seen ← elements_of path k ms nothing_told
  lost ← losses_or_none line (under path (codes "loss")) k (get_member (codes "loss") ms) seen
  keyed ← signal_under path (codes "key") (Key k) ms lost
  signal_under path (codes "trip") (Trip k) ms keyed
