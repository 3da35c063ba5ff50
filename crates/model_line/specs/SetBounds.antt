-- A line with another interval for one parameter.
use Rattle.std.specs.Prelude.{◌≡◌, ℕ, List, map, slice_set}
use Rattle.model_line.specs.Intervals.{leasts, greatests}
use Rattle.model_line.specs.{declared.line.Line.Line, declared.line.Param.Param}

-- the interval of parameter i is replaced
pub record WithBounds (old new : List Param) (i least greatest : ℕ) : Type 0 where
  pub names : map (λ p. p.name) new ≡ map (λ p. p.name) old
  pub least_of : leasts new ≡ slice_set (leasts old) i least
  pub greatest_of : greatests new ≡ slice_set (greatests old) i greatest

-- all but the parameters is the same
pub record SameButParams (old new : Line) : Type 0 where
  pub tick_us : new.tick_us ≡ old.tick_us
  pub horizon : new.horizon ≡ old.horizon
  pub scheme : new.scheme ≡ old.scheme
  pub zone1_trip : new.zone1_trip ≡ old.zone1_trip
  pub terminals : new.terminals.items ≡ old.terminals.items
  pub channels : new.channels.items ≡ old.channels.items
