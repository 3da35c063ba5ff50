-- The table of races.
use Rattle.std.specs.Prelude.{◌≡◌, ◌++◌, ◌||◌, ℕ, zero, suc, Bool, true, false, List, [], ◌∷◌, map}
use Rattle.std.specs.Prelude.{Option, Some, length, get_or, slice_get, take, drop, is_some}
use Rattle.csv.specs.Writing.{row_text, default_writer}
use Rattle.file_study.specs.declared.sweeps.group.Group.{Group}
use Rattle.model_line.specs.{declared.line.Line.Line, declared.script.Script.Script}
use Rattle.model_line.specs.Kinds.{is_external as of_kind}
use Rattle.model_line.specs.Parameters.{terminal_count}
use Rattle.model_logic.specs.{Choice.declared_box, Logic.set_tree, Tree.Tree}
use Rattle.model_logic.specs.Histories.{PairHistory, IsPairHistory}
use Rattle.judge_races.specs.Operands.{alternatives, operands}
use Rattle.judge_races.specs.Lasting.{IsTerminal}
use Rattle.judge_races.specs.declared.places.Terminal.{Terminal}
use Rattle.judge_races.specs.declared.stretch.Stretch.{Stretch}
use Rattle.call_answer.specs.{Answers.Answers, Answers.status_by, declared.done.Done.Done}
use Rattle.call_races.specs.Trips.{begin_words, longest_place, longest_trip}
use Rattle.call_races.specs.Rows.{each_rows, races_header, rows_or_none, trip_rows}

-- the operands of each conjunction of what sets a terminal's trip
abbrev pub conjunctions_at : Line → ℕ → List (List Tree)
conjunctions_at line k = map operands (alternatives (set_tree line k))

-- What begins where the trip may be set for the longest, over these scripts: over the interval
-- history of that script, of which there is one.
abbrev pub AreBegins : Line → List Script → ℕ → List (Option Stretch) → List ℕ → Type 0
AreBegins line scripts k trips begins = (script : Script) (w : PairHistory) (trip : Stretch)
    → slice_get scripts (longest_place trips) ≡ Some script → longest_trip trips ≡ Some trip
    → IsPairHistory line script (declared_box line) w
    → begins ≡ begin_words line script w trip.from (conjunctions_at line k)

-- what is told: whether a trip may be set, and records
abbrev pub Telling : Type 1
Telling = Bool → List ℕ → Type 0

-- nothing is
pub record IsNothing (trips : Bool) (rows : List ℕ) : Type 0 where
  pub trips_is : trips ≡ false
  pub rows_is : rows ≡ []

-- one thing and then another
pub record Both (IsFirst IsSecond : Telling) (trips : Bool) (rows : List ℕ) : Type 0 where
  pub first_trips : Bool
  pub first_rows : List ℕ
  pub second_trips : Bool
  pub second_rows : List ℕ
  pub first : IsFirst first_trips first_rows
  pub second : IsSecond second_trips second_rows
  pub trips_is : trips ≡ first_trips || second_trips
  pub rows_is : rows ≡ first_rows ++ second_rows

-- of a fault at a terminal: of all its scripts the trip that may be set for the longest, and the
-- races of each conjunction
pub record IsAtTerminal (line : Line) (group : Group) (scripts : List Script) (k : ℕ) (trips : Bool)
    (rows : List ℕ) : Type 0 where
  pub found : Terminal
  pub begins : List ℕ
  pub is : IsTerminal line scripts k found
  pub begins_is : AreBegins line scripts k found.trips.items begins
  pub trips_is : trips ≡ is_some (longest_trip found.trips.items)
  pub rows_is : rows ≡ rows_or_none line group k
      (trip_rows line group k begins (longest_place found.trips.items)
      (longest_trip found.trips.items)
      ++ each_rows line group k (conjunctions_at line k) found.races.items)

-- at the first n terminals
abbrev pub AtTerminals : Line → Group → List Script → ℕ → Telling
AtTerminals line group scripts zero = IsNothing
AtTerminals line group scripts (suc n) =
    Both (AtTerminals line group scripts n) (IsAtTerminal line group scripts n)

-- a fault is external if its scripts are
abbrev pub is_external : List Script → Bool
is_external scripts = get_or (map (λ script. of_kind script.kind) scripts) 0 false

-- nothing of an internal fault
abbrev pub if_external : Bool → Telling → Telling
if_external true telling = telling
if_external false telling = IsNothing

abbrev pub OfFault : Line → Group → List Script → Telling
OfFault line group scripts =
    if_external (is_external scripts) (AtTerminals line group scripts (terminal_count line))

-- of faults whose scripts stand one after another
abbrev pub OfFaults : Line → List Group → List Script → Telling
OfFaults line [] scripts = IsNothing
OfFaults line (group ∷ more) scripts =
    Both (OfFault line group (take (length group.swept.items) scripts))
    (OfFaults line more (drop (length group.swept.items) scripts))

-- the header and the records; the status is 1 where a trip may be set, else 0
pub record AreRacesTold (line : Line) (scripts : List Script) (groups : List Group) (status : Done)
    (text : List ℕ) : Type 0 where
  pub trips : Bool
  pub rows : List ℕ
  pub are : OfFaults line groups scripts trips rows
  pub status_is : status ≡ status_by trips false
  pub text_is : text ≡ row_text default_writer races_header ++ rows

abbrev pub races_answer : Line → List Script → List Group → Answers
races_answer line scripts groups = AreRacesTold line scripts groups

-- these rows are told after those
pub record Adds (telling : Telling) (old new : List ℕ) (trips : Bool) : Type 0 where
  pub rows : List ℕ
  pub is : telling trips rows
  pub text : new ≡ old ++ rows
