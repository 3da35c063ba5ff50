-- What a line is made of.
use Rattle.std.specs.Prelude.{◌≡◌, ◌≤◌, ℕ, Bool, List, length, map, IsTrue}
use Rattle.model_line.specs.Terminals.{are_plain_names, NamesDiffer, flags_fit}
use Rattle.model_line.specs.Intervals.{leasts, greatests, AreIntervals, LeastDelaysFromOne}
use Rattle.model_line.specs.{declared.line.Line.Line, declared.line.Scheme.Scheme}
use Rattle.model_line.specs.{declared.line.Terminal.Terminal, declared.line.Channel.Channel}
use Rattle.model_line.specs.{declared.line.Param.Param, declared.bounds.Bounds.Bounds}
use Rattle.model_line.specs.{Channels.AreChannels, Settings.line_settings}

-- the ends of the intervals
abbrev pub least_ends : List Bounds → List ℕ
least_ends bs = map (λ b. b.least) bs

abbrev pub greatest_ends : List Bounds → List ℕ
greatest_ends bs = map (λ b. b.greatest) bs

-- two or three terminals, each with a plain name of its own, weak or guarded as the scheme lets
pub record AreTerminals (scheme : Scheme) (terminals : List Terminal) : Type 0 where
  pub two_or_three : (2 ≤ length terminals) × (length terminals ≤ 3)
  pub plain_names : IsTrue (are_plain_names terminals)
  pub flags_by_scheme : IsTrue (flags_fit scheme terminals)
  pub names_once : NamesDiffer terminals (length terminals)

-- an interval for each parameter, in order, and a delay of one tick at least
pub record AreBounds
    (scheme : Scheme) (terminals : List Terminal) (channels : List Channel) (bounds : List Bounds)
    : Type 0 where
  pub one_each : length bounds ≡ length (line_settings scheme terminals channels)
  pub ends_in_range : AreIntervals (least_ends bounds) (greatest_ends bounds)
  pub delays_from_one : LeastDelaysFromOne scheme terminals channels (least_ends bounds)

-- of these a line can be made
pub record MakesLine
    (tick_us horizon : ℕ) (scheme : Scheme) (terminals : List Terminal) (channels : List Channel)
    (bounds : List Bounds) : Type 0 where
  pub tick_in_range : (1 ≤ tick_us) × (tick_us ≤ 1000000)
  pub horizon_in_range : (1 ≤ horizon) × (horizon ≤ 4000)
  pub terminals_fit : AreTerminals scheme terminals
  pub pairs_once : AreChannels (length terminals) channels
  pub bounds_fit : AreBounds scheme terminals channels bounds

-- the line that is made of these; the names of its parameters are a law of the line
pub record IsMadeOf
    (tick_us horizon : ℕ) (scheme : Scheme) (zone1_trip : Bool) (terminals : List Terminal)
    (channels : List Channel) (bounds : List Bounds) (line : Line) : Type 0 where
  pub tick_us_is : line.tick_us ≡ tick_us
  pub horizon_is : line.horizon ≡ horizon
  pub scheme_is : line.scheme ≡ scheme
  pub zone1_trip_is : line.zone1_trip ≡ zone1_trip
  pub terminals_are : line.terminals.items ≡ terminals
  pub channels_are : line.channels.items ≡ channels
  pub least_are : leasts line.params.items ≡ least_ends bounds
  pub greatest_are : greatests line.params.items ≡ greatest_ends bounds

-- parameters with these names and intervals
pub record AreParams (names : List (List ℕ)) (bounds : List Bounds) (params : List Param)
    : Type 0 where
  pub names_are : map (λ p. p.name) params ≡ names
  pub least_are : leasts params ≡ least_ends bounds
  pub greatest_are : greatests params ≡ greatest_ends bounds
