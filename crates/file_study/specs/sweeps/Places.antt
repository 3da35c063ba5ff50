-- Where a script stands among those of its fault.
use Rattle.std.specs.Prelude.{◌-◌, ℕ, List, [], ◌∷◌, Option, None, Some, length, nat_lt}
use Rattle.std.specs.Prelude.{if◌then◌else◌}
use Rattle.file_study.specs.declared.sweeps.group.Group.{Group}
use Rattle.file_study.specs.declared.sweeps.place.Place.{Place}

-- a fault, and a place among its scripts, counted from 0
pub record PlaceValues : Type 0 where
  pub group : Group
  pub at : ℕ

abbrev pub place_values : Place → PlaceValues
place_values p = record { group = p.group.now; at = p.at }

-- that of script i of groups that stand one after another, if there are as many
abbrev pub place_in : List Group → ℕ → Option PlaceValues
place_in [] i = None
place_in (g ∷ more) i =
    if nat_lt i (length g.swept.items) then Some (record { group = g; at = i })
    else place_in more (i - length g.swept.items)
