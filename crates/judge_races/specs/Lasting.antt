-- The operands of a line's trips over its interval histories.
use Rattle.std.specs.Prelude.{◌≡◌, ◌<◌, ℕ, Bool, true, false, IsTrue, List, Vec, Option, Some, None, length}
use Rattle.std.specs.Prelude.{get_or, slice_get}
use Rattle.std.specs.declared.alloc.Global.{Global}
use Rattle.judge_verdict.specs.verdict.OneEach.{OneEach}
use Rattle.model_logic.specs.Tree.{Const}
use Rattle.model_logic.specs.Logic.{set_tree}
use Rattle.run_waves.specs.waves.Waves.{AreWaves}
use Rattle.judge_races.specs.Stretches.{Longest}
use Rattle.judge_races.specs.Races.{AreRaces, IsLookedAt}
use Rattle.judge_races.specs.declared.races.Race.{Race}
use Rattle.judge_races.specs.declared.places.Terminal.{Terminal}
use Rattle.judge_races.specs.declared.stretch.Stretch.{Stretch}
use Rattle.model_line.specs.{declared.line.Line.Line, declared.script.Script.Script}
use Rattle.model_line.specs.Parameters.{declared_ends}
use Rattle.model_logic.specs.Choice.{declared_box, ends_by}
use Rattle.model_logic.specs.Histories.{PairHistory, IsPairHistory}
use Rattle.model_logic.specs.{Tree.Tree, PairMean.pair_mean}
use Rattle.net_gates.specs.declared.gate.Gate.{Gate}
use Rattle.run_signal.specs.declared.tern.Tern.{Tern}
use Rattle.run_waves.specs.derived.Claims.{declared_world, AreGateWaves}
use Rattle.judge_races.specs.Operands.{alternatives, input_of, operands, pickup_of}
use Rattle.judge_races.specs.Lacks.{IsColumn}
use Rattle.judge_races.specs.Races.{Column}

-- where a tree may be on
abbrev pub may_be : Line → Script → PairHistory → Tree → ℕ → Bool
may_be line script w x t = (pair_mean (declared_world line script) w.key x t).may

-- the least pickup of an operand
abbrev pub least_pickup : Line → Tree → ℕ
least_pickup line x = (ends_by (declared_ends line) (pickup_of x)).least

-- the waves of all gates in the script's interval history, of which there is one
pub record AreHistoryWaves (line : Line) (script : Script) (gates : List Gate)
    (waves : List (List Tern)) : Type 0 where
  pub are : AreWaves (length gates) line.horizon waves
  pub over : (w : PairHistory) → IsPairHistory line script (declared_box line) w
      → AreGateWaves line script gates w.key waves

-- what an operand lacks at each tick, over all choices together
abbrev pub IsColumnOf : Line → Script → Tree → Column → Type 0
IsColumnOf line script x column = (w : PairHistory)
    → IsPairHistory line script (declared_box line) w
    → IsColumn (may_be line script w (input_of x)) (least_pickup line x) line.horizon column

-- the same of operands, one after another
abbrev pub AreColumns : Line → Script → List Tree → List Column → Type 0
AreColumns line script trees columns =
    OneEach (λ i column. IsColumnOf line script (get_or trees i (Const false)) column) (length trees)
    columns

-- the longest stretch of ticks at which a terminal's trip may be set
abbrev pub IsTripOf : Line → Script → ℕ → Option Stretch → Type 0
IsTripOf line script k trip = (w : PairHistory) → IsPairHistory line script (declared_box line) w
    → Longest (may_be line script w (set_tree line k)) line.horizon trip

-- the same for each script
abbrev pub AreTrips : Line → List Script → ℕ → List (Option Stretch) → Type 0
AreTrips line scripts k trips = OneEach (λ p trip. (script : Script) → slice_get scripts p ≡ Some script
    → IsTripOf line script k trip) (length scripts) trips

abbrev pub is_held : Option (Option Stretch) → Bool
is_held None = false
is_held (Some None) = true
is_held (Some (Some trip)) = false

-- the trip is set at no tick of this script
abbrev pub holds_at : List (Option Stretch) → ℕ → Bool
holds_at trips p = is_held (slice_get trips p)

-- The races of a conjunction over the first n scripts: one for each set of its operands that lack the
-- most at some tick of a script at which the trip is never set.
pub record AreRacesOver (line : Line) (scripts : List Script) (trips : List (Option Stretch))
    (trees : List Tree) (n : ℕ) (races : List Race) : Type 0 where
  pub columns : ℕ → List Column
  pub tell : (p : ℕ) (script : Script) → p < n → slice_get scripts p ≡ Some script
      → IsTrue (holds_at trips p) → AreColumns line script trees (columns p)
  pub are : AreRaces columns (IsLookedAt (holds_at trips) line.horizon n 0) races

-- those of each conjunction
abbrev pub AreEachRaces : Line → List Script → List (Option Stretch) → List Tree
    → List (Vec Race Global) → Type 0
AreEachRaces line scripts trips each all = OneEach (λ i races. AreRacesOver line scripts trips
    (operands (get_or each i (Const false))) (length scripts) races.items) (length each) all

-- of a terminal: where its trip may be set, and the races of each conjunction
pub record IsTerminal (line : Line) (scripts : List Script) (k : ℕ) (found : Terminal) : Type 0 where
  pub trips : AreTrips line scripts k found.trips.items
  pub races : AreEachRaces line scripts found.trips.items (alternatives (set_tree line k))
      found.races.items

-- the waves of each script
abbrev pub AreAllWaves : Line → List Script → List Gate → List (Vec (List Tern) Global) → Type 0
AreAllWaves line scripts gates all = OneEach (λ p waves. (script : Script)
    → slice_get scripts p ≡ Some script → AreHistoryWaves line script gates waves.items)
    (length scripts) all
