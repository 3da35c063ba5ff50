-- What the records so far say: things that are finished, and the latest, to which a record adds.
use Rattle.std.specs.Prelude.{List, [], ◌++◌, Option, None, Some, map, option_map}
use Rattle.std.specs.Prelude.{option_to_list}
use Rattle.base_records.specs.declared.reading.Reading.{Reading}

pub record SoFar (V : Type 0) : Type 0 where
  pub done : List V
  pub latest : Option V

-- all of them, in file order
abbrev pub all_of : {V : Type 0} → SoFar V → List V
all_of s = s.done ++ option_to_list s.latest

-- before the first
abbrev pub nothing : {V : Type 0} → SoFar V
nothing = record { done = []; latest = None }

-- one more opens
abbrev pub opened : {V : Type 0} → SoFar V → V → SoFar V
opened s v = record { done = all_of s; latest = Some v }

-- what the code holds of them
abbrev pub so_far_of : {X V : Type 0} → (X → V) → Reading X → SoFar V
so_far_of view r = record { done = map view r.done.items; latest = option_map view r.latest }
