-- The values of a line, as its file gives them.
use Rattle.std.specs.Prelude.{◌+◌, ℕ, Bool, List, [], Result, Ok, Err, codes, map, Option, None}
use Rattle.std.specs.Prelude.{Some}
use Rattle.std.specs.Prelude.{if◌then◌else◌}
use Rattle.std.specs.Str.{bytes_eq}
use Rattle.toml.specs.Data.{Data, Members, Items, no_items, item, get_member}
use Rattle.base_memory.specs.Gives.{◌>>=◌}
use Rattle.model_line.specs.declared.line.Scheme.TheVariants.{Pott, Putt, Dcb, Dcub, Dtt}
use Rattle.model_line.specs.{declared.bounds.Bounds.Bounds, declared.line.Line.Line}
use Rattle.model_line.specs.{declared.line.Scheme.Scheme, declared.line.Param.Param}
use Rattle.model_line.specs.{declared.line.Terminal.Terminal, declared.line.Channel.Channel}
use Rattle.file_line.specs.{declared.draft.Draft.Draft}
use Rattle.file_document.specs.declared.fault.DocumentFault.{DocumentFault}
use Rattle.file_document.specs.declared.fault.DocumentFault.TheVariants as fault
use Rattle.file_document.specs.Paths.{under}
use Rattle.file_line.specs.Places.{Places}
use Rattle.file_document.specs.Keys.{number_at, text_at, flag_or_false, array_at, counted}

-- The values of a line, or of the part of it that was read: the intervals are those of its
-- parameters, in order.
pub record LineValues : Type 0 where
  pub tick_us : ℕ
  pub horizon : ℕ
  pub scheme : Scheme
  pub zone1_trip : Bool
  pub terminals : List Terminal
  pub channels : List Channel
  pub intervals : List Bounds

-- The line with what the items of an array say, one after another, each read with its own places;
-- the first of them has the number i.
unfoldable pub items_at :
    (Places → Data → LineValues → Result LineValues DocumentFault)
    → (ℕ → Places) → ℕ → Items → LineValues → Result LineValues DocumentFault
items_at read stands i no_items line = Ok line
items_at read stands i (item d ds) line = do
  more ← read (stands i) d line
  items_at read stands (i + 1) ds more

-- what the reader holds of a line
abbrev pub values_of : Draft → LineValues
values_of d =
    record {
      tick_us = d.tick_us;
      horizon = d.horizon;
      scheme = d.scheme;
      zone1_trip = d.zone1_trip;
      terminals = d.terminals.items;
      channels = d.channels.items;
      intervals = d.intervals.items;
    }

-- the intervals of parameters
abbrev pub intervals_of : List Param → List Bounds
intervals_of ps = map (λ p. record { least = p.least; greatest = p.greatest }) ps

-- the values of a line; the names of its parameters follow from them
abbrev pub line_values : Line → LineValues
line_values line =
    record {
      tick_us = line.tick_us;
      horizon = line.horizon;
      scheme = line.scheme;
      zone1_trip = line.zone1_trip;
      terminals = line.terminals.items;
      channels = line.channels.items;
      intervals = intervals_of line.params.items;
    }

-- the schemes by their names
abbrev pub scheme_named : List ℕ → Option Scheme
scheme_named text =
    if bytes_eq text (codes "pott") then Some Pott
    else if bytes_eq text (codes "putt") then Some Putt
    else if bytes_eq text (codes "dcb") then Some Dcb
    else if bytes_eq text (codes "dcub") then Some Dcub
    else if bytes_eq text (codes "dtt") then Some Dtt
    else None

abbrev pub scheme_or_fault : Option Scheme → Result Scheme DocumentFault
scheme_or_fault None = Err (fault.Range (under [] (codes "scheme")))
scheme_or_fault (Some scheme) = Ok scheme

-- the scheme
unfoldable pub scheme_of : Members → Result Scheme DocumentFault
scheme_of ms = do
  text ← text_at [] (codes "scheme") ms
  scheme_or_fault (scheme_named text)

-- whether zone 1 trips by itself
unfoldable pub zone1_trip_of : Members → Result Bool DocumentFault
zone1_trip_of ms = flag_or_false (under [] (codes "zone1_trip")) (get_member (codes "zone1_trip") ms)

-- the values that stand at the top of the file
unfoldable pub head_of : Members → Result LineValues DocumentFault
head_of ms = do
  tick_us ← number_at [] (codes "tick_us") 1 1000000 ms
  horizon ← number_at [] (codes "horizon") 1 4000 ms
  scheme ← scheme_of ms
  zone1_trip ← zone1_trip_of ms
  Ok (record {
    tick_us = tick_us;
    horizon = horizon;
    scheme = scheme;
    zone1_trip = zone1_trip;
    terminals = [];
    channels = [];
    intervals = [];
  })

-- the array of terminals: two or three
unfoldable pub terminal_items : Members → Result Items DocumentFault
terminal_items ms = do
  ds ← array_at [] (codes "terminal") ms
  counted (under [] (codes "terminal")) 2 3 ds

-- the array of channels
abbrev pub channel_items : Members → Result Items DocumentFault
channel_items ms = array_at [] (codes "channel") ms
