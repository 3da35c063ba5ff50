-- What the scripts of an external fault have to spare at a terminal.
use Rattle.std.specs.Prelude.{◌≡◌, ◌-◌, ℕ, Bool, List, [], ◌∷◌, Option, None, Some, min, if◌then◌else◌}
use Rattle.std.specs.Prelude.{is_some, Vec}
use Rattle.std.specs.declared.alloc.Global.{Global}
use Rattle.std.specs.List.{list_any}
use Rattle.model_line.specs.{declared.line.Line.Line, declared.script.Script.Script}
use Rattle.model_line.specs.declared.script.Kind.{Kind}
use Rattle.model_line.specs.declared.script.Kind.TheVariants.{Internal, External}
use Rattle.judge_races.specs.declared.places.Terminal.{Terminal}
use Rattle.judge_races.specs.declared.races.Race.{Race}
use Rattle.judge_races.specs.declared.stretch.Stretch.{Stretch}
use Rattle.judge_races.specs.Lasting.{IsTerminal}

-- the lesser of two, where there are both
abbrev pub lesser : Option ℕ → Option ℕ → Option ℕ
lesser None m = m
lesser (Some n) None = Some n
lesser (Some n) (Some m) = Some (min n m)

-- a race has one tick less to spare than its operands lack; the least of several
abbrev pub least_of : List Race → Option ℕ
least_of [] = None
least_of (race ∷ more) = lesser (Some (race.lack - 1)) (least_of more)

abbrev pub least_of_each : List (Vec Race Global) → Option ℕ
least_of_each [] = None
least_of_each (races ∷ more) = lesser (least_of races.items) (least_of_each more)

-- known where the trip may be set at no tick of any script
abbrev pub spare_in : Terminal → Option ℕ
spare_in found =
    if list_any is_some found.trips.items then None else least_of_each found.races.items

-- the least that the races of these scripts have to spare at terminal k
pub record IsSpareOf (line : Line) (scripts : List Script) (k : ℕ) (spare : Option ℕ) : Type 0 where
  pub found : Terminal
  pub of : IsTerminal line scripts k found
  pub is : spare ≡ spare_in found

abbrev pub IsSpareBy : Kind → Line → List Script → ℕ → Option ℕ → Type 0
IsSpareBy Internal line scripts k spare = spare ≡ None
IsSpareBy External line scripts k spare = IsSpareOf line scripts k spare
