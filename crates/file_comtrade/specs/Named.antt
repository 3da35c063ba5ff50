-- The channel that an id names.
use Rattle.std.specs.Prelude.{◌<◌, ◌+◌, ℕ, Bool, List, drop, position, Option, Some, None}
use Rattle.std.specs.Prelude.{if◌then◌else◌}
use Rattle.std.specs.Borrow.{Bor}
use Rattle.std.specs.List.{list_any}
use Rattle.std.specs.Str.{bytes_eq}
use Rattle.file_comtrade.specs.declared.channel.Named.{Named}
use Rattle.file_comtrade.specs.declared.channel.Named.TheVariants.{Nothing, One, More}

abbrev pub has_id : List ℕ → List ℕ → Bool
has_id id other = bytes_eq other id

abbrev pub is_it : List ℕ → Bor (List ℕ) → Bool
is_it id other = has_id id other.now

-- the first that has the id, unless one behind it has it too
abbrev pub alone_at : List (List ℕ) → List ℕ → Option ℕ → Named
alone_at ids id None = Nothing
alone_at ids id (Some i) = if list_any (has_id id) (drop (i + 1) ids) then More else One i

abbrev pub named_in : List (List ℕ) → List ℕ → Named
named_in ids id = alone_at ids id (position (has_id id) ids)

abbrev pub IsNamedBelow : ℕ → Named → Type 0
IsNamedBelow n Nothing = Unit {0}
IsNamedBelow n (One i) = i < n
IsNamedBelow n More = Unit {0}
