-- The scripts of each fault, which stand one after another.
use Rattle.std.specs.Prelude.{◌≡◌, ◌≤◌, ◌+◌, ◌-◌, ℕ, List, [], ◌∷◌, Option, None, Some, length, min, map}
use Rattle.std.specs.Prelude.{get_or}
use Rattle.std.specs.List.{All}
use Rattle.model_line.specs.declared.script.Script.{Script}
use Rattle.model_line.specs.NamesByNumber.{script_name}
use Rattle.file_study.specs.declared.sweeps.group.Group.{Group}
use Rattle.file_study.specs.sweeps.Places.{PlaceValues, place_in}
use Rattle.call_page.specs.declared.parts.Part.{Part}

-- how many scripts from this place on are of its group; one alone is of none
abbrev pub count_by : Option PlaceValues → ℕ → ℕ
count_by None left = 1
count_by (Some p) left = min (length p.group.swept.items - p.at) left

-- so many of so many scripts
pub record IsPart (groups : List Group) (scripts : ℕ) (part : Part) : Type 0 where
  pub some : 1 ≤ part.count
  pub within : part.start + part.count ≤ scripts
  pub count_is : part.count ≡ count_by (place_in groups part.start) (scripts - part.start)

-- each begins where the one before ends
abbrev pub Follow : ℕ → List Part → ℕ → Type 0
Follow from [] to = from ≡ to
Follow from (p ∷ more) to = (p.start ≡ from) × Follow (from + p.count) more to

-- all scripts in parts
pub record AreParts (groups : List Group) (scripts : ℕ) (parts : List Part) : Type 0 where
  pub each : All (IsPart groups scripts) parts
  pub whole : Follow 0 parts scripts

-- the values of the swept times of a script
abbrev pub swept_values : Option PlaceValues → List ℕ
swept_values None = []
swept_values (Some p) = get_or (map (λ v. v.items) p.group.swept.items) p.at []

-- the name of the fault that begins with a script: that of its group, else its own
abbrev pub name_by : Option PlaceValues → List ℕ → List ℕ
name_by None own = own
name_by (Some p) own = p.group.name

abbrev pub fault_name : List Group → List Script → ℕ → List ℕ
fault_name groups scripts start = name_by (place_in groups start) (script_name scripts start)
