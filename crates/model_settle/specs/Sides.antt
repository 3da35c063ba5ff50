-- Which rail reads each key, and at which end each number is asked for.
use Rattle.std.specs.Prelude.{◌≡◌, ◌<◌, ℕ, Bool, IsTrue}
use Rattle.model_history.specs.Rails.{Rails, Ends}
use Rattle.model_logic.specs.Tree.{Tree, Const, Seen, Loss, Raw, Not, And, Or, Timer, Seal}
use Rattle.model_logic.specs.declared.time.Time.TheVariants.{Zero, Param}
use Rattle.model_logic.specs.{declared.time.Time.Time, Logic.key_tree}
use Rattle.model_line.specs.{declared.line.Line.Line, Channels.from_of, Parameters.terminal_count}

-- a rail of a pair
pub data Rail : Type 0 where
  Must : Rail
  May : Rail

-- a denial reads the other rail
abbrev pub turned : Rail → Rail
turned Must = May
turned May = Must

abbrev pub value_on : Rail → Rails → Bool
value_on Must x = x.must
value_on May x = x.may

-- an end of an interval
pub data End : Type 0 where
  Least : End
  Greatest : End

abbrev pub number_at : End → Ends → ℕ
number_at Least ends = ends.least
number_at Greatest ends = ends.greatest

-- the end at which a rail takes a pickup, and a dropout
abbrev pub pickup_end : Rail → End
pickup_end Must = Greatest
pickup_end May = Least

abbrev pub dropout_end : Rail → End
dropout_end Must = Least
dropout_end May = Greatest

-- one end for each parameter, and one rail for each terminal's key
pub record Sides : Type 0 where
  pub end_of : ℕ → End
  pub key : ℕ → Rail

-- the parameter that the time names, if it names one, is taken at this end
abbrev pub IsTakenAt : Sides → Time → End → Type 0
IsTakenAt sides Zero end = Unit {0}
IsTakenAt sides (Param i) end = sides.end_of i ≡ end

-- where a tree is read on this rail, each of its parameters is asked for at its side's end alone, and
-- each channel leads into a key of the cone that is read on its side's rail
unfoldable pub IsReadOn : (ℕ → ℕ) → (ℕ → Bool) → Sides → Rail → Tree → Type 0
IsReadOn from cone sides rail (Const v) = Unit {0}
IsReadOn from cone sides rail (Seen p) = Unit {0}
IsReadOn from cone sides rail (Loss c) = Unit {0}
IsReadOn from cone sides rail (Raw c) = IsTrue (cone (from c)) × (sides.key (from c) ≡ rail)
IsReadOn from cone sides rail (Not x) = IsReadOn from cone sides (turned rail) x
IsReadOn from cone sides rail (And x y) =
    IsReadOn from cone sides rail x × IsReadOn from cone sides rail y
IsReadOn from cone sides rail (Or x y) =
    IsReadOn from cone sides rail x × IsReadOn from cone sides rail y
IsReadOn from cone sides rail (Timer x p d) = IsReadOn from cone sides rail x
    × (IsTakenAt sides p (pickup_end rail) × IsTakenAt sides d (dropout_end rail))
IsReadOn from cone sides rail (Seal x y) =
    IsReadOn from cone sides rail x × IsReadOn from cone sides rail y

-- the key of each terminal of the cone is read on its one rail
abbrev pub IsOneRailed : Line → (ℕ → Bool) → Sides → Type 0
IsOneRailed line cone sides =
    (k : ℕ) → k < terminal_count line → IsTrue (cone k)
    → IsReadOn (from_of line.channels.items) cone sides (sides.key k) (key_tree line k)
