-- What is told of a fault at a terminal.
use Rattle.std.proofs.Common.{◌≡◌, ◌≤◌, ◌<◌, ◌++◌, ℕ, zero, suc, List, [], ◌∷◌, ap, refl, ◌∙◌, length, arith}
use Rattle.std.specs.Prelude.{get_or, slice_get, Option, Some, None, Vec}
use Rattle.std.specs.Prelude.{not}
use Rattle.std.proofs.lemmas.List.Sums.{prefix_len-le-length}
use Rattle.std.specs.declared.alloc.Global.{Global}
use Rattle.csv.specs.Writing.{row_text, default_writer}
use Rattle.model_line.specs.{declared.line.Line.Line, declared.script.Script.Script}
use Rattle.model_logic.specs.{Choice.declared_box, Tree.Tree}
use Rattle.model_logic.specs.Histories.{PairHistory, IsPairHistory}
use Rattle.file_study.specs.declared.sweeps.group.Group.{Group}
use Rattle.judge_races.specs.Lasting.{IsTerminal}
use Rattle.judge_races.specs.declared.places.Terminal.{Terminal}
use Rattle.judge_races.specs.declared.races.Race.{Race}
use Rattle.judge_races.specs.declared.stretch.Stretch.{Stretch}
use Rattle.call_races.specs.Trips.{begin_words, is_longest, longest_place, longest_trip}
use Rattle.call_races.specs.Rows.{each_rows, empty_record, rows_or_none, trip_rows}
use Rattle.call_races.specs.Races.{AreBegins, conjunctions_at}

there : (trips : List (Option Stretch)) (p : ℕ) (trip : Stretch)
    → get_or trips p None ≡ Some trip → slice_get trips p ≡ Some (Some trip)
there [] p trip e = absurd (cc)
there (x ∷ trips) zero trip e = ap Some e
there (x ∷ trips) (suc p) trip e = there trips p trip e

pub longest_within : (trips : List (Option Stretch)) → longest_place trips ≤ length trips
longest_within trips =
    prefix_len-le-length (λ (trip : Option Stretch). not (is_longest trips trip)) trips

pub begins_told : (line : Line) (scripts : List Script) (k : ℕ) (found : Terminal)
    (each : List (List Tree)) (place : ℕ) (trip : Option Stretch) (begins : List ℕ)
    → IsTerminal line scripts k found → place ≡ longest_place found.trips.items
    → trip ≡ longest_trip found.trips.items → each ≡ conjunctions_at line k
    → ((script : Script) (w : PairHistory) (one : Stretch) → slice_get scripts place ≡ Some script
    → trip ≡ Some one → one.from < line.horizon → IsPairHistory line script (declared_box line) w
    → begins ≡ begin_words line script w one.from each)
    → AreBegins line scripts k found.trips.items begins
begins_told line scripts k found each place trip begins is place_is trip_is same told =
    λ script w one at found_one is_w.
    let longest = is.trips.each (longest_place found.trips.items) (Some one)
    (there found.trips.items (longest_place found.trips.items) one found_one) script at w is_w in
    let lt : one.from < line.horizon = omega (arith, longest.is.some, longest.is.within) in
    told script w one (ap (λ (p : ℕ). slice_get scripts p) place_is ∙ at) (trip_is ∙ found_one) lt is_w
    ∙ ap (λ (l : List (List Tree)). begin_words line script w one.from l) same

pub rows_told : (line : Line) (group : Group) (k : ℕ) (trips : List (Option Stretch))
    (races : List (Vec Race Global)) (each : List (List Tree)) (place : ℕ) (trip : Option Stretch)
    (begins rows : List ℕ) → place ≡ longest_place trips → trip ≡ longest_trip trips
    → each ≡ conjunctions_at line k
    → rows ≡ rows_or_none line group k (trip_rows line group k begins place trip ++ each_rows line group k each races)
    → rows ≡ rows_or_none line group k (trip_rows line group k begins (longest_place trips) (longest_trip trips)
    ++ each_rows line group k (conjunctions_at line k) races)
rows_told line group k trips races each place trip begins rows place_is trip_is same told =
    told
    ∙ ap (λ (p : ℕ). rows_or_none line group k (trip_rows line group k begins p trip ++ each_rows line group k each races)) place_is
    ∙ ap (λ (t : Option Stretch). rows_or_none line group k
    (trip_rows line group k begins (longest_place trips) t ++ each_rows line group k each races)) trip_is
    ∙ ap (λ (l : List (List Tree)). rows_or_none line group k
    (trip_rows line group k begins (longest_place trips) (longest_trip trips) ++ each_rows line group k l races)) same

-- rows that there are stay as they are
pub rows_kept : (line : Line) (group : Group) (k : ℕ) (rows : List ℕ) → 0 < length rows
    → rows ≡ rows_or_none line group k rows
rows_kept line group k [] some = absurd (omega (arith, some))
rows_kept line group k (byte ∷ rows) some = refl

pub rows_none : (line : Line) (group : Group) (k : ℕ) (rows : List ℕ) → length rows ≡ 0
    → rows ++ row_text default_writer (empty_record line group k) ≡ rows_or_none line group k rows
rows_none line group k [] none = refl
rows_none line group k (byte ∷ rows) none = absurd (omega (arith, none))
