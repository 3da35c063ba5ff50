-- The numbers of a ruler: round times in milliseconds.
use Rattle.std.specs.Prelude.{◌+◌, ◌-◌, ◌*◌, ◌/◌, ◌%◌, ◌++◌, ◌==◌, ℕ, Bool, List, [], ◌∷◌}
use Rattle.std.specs.Prelude.{codes, decimal, nat_le, Option, None, Some, if◌then◌else◌}
use Rattle.model_history.specs.Each.{each_below}
use Rattle.draw_shapes.specs.declared.class.Class.TheVariants as class
use Rattle.draw_shapes.specs.{Seen.SeenFigure}
use Rattle.draw_shapes.specs.Seen as seen
use Rattle.draw_shapes.specs.declared.{grid.Ruler.Ruler, scale.Scale.Scale}
use Rattle.draw_shapes.specs.Scale.{along, bottom_of, last_of}

-- microseconds as milliseconds: whole, or with three decimal places
abbrev pub milliseconds_said : ℕ → List ℕ
milliseconds_said time =
    decimal (time / 1000) ++ (if time % 1000 == 0 then [] else codes "."
    ++ (decimal (time / 100 % 10) ++ (decimal (time / 10 % 10) ++ decimal (time % 10))))

-- numbers at every so many microseconds stay so far apart
abbrev pub has_room : Ruler → ℕ → ℕ → ℕ → Bool
has_room ruler long apart round = nat_le (apart * ruler.step) (round * long)

-- the first of these at which they do
abbrev pub first_with_room : Ruler → ℕ → ℕ → List ℕ → ℕ
first_with_room ruler long apart [] = 10000000000
first_with_room ruler long apart (round ∷ rounds) =
    if has_room ruler long apart round then round else first_with_room ruler long apart rounds

unfoldable pub round_of : Ruler → ℕ → ℕ → ℕ
round_of ruler long apart =
    first_with_room ruler long apart
    (100 ∷ (200 ∷ (500 ∷ (1000 ∷ (2000 ∷ (5000 ∷ (10000
    ∷ (20000 ∷ (50000 ∷ (100000 ∷ (200000 ∷ (500000 ∷ (1000000 ∷ (2000000 ∷ (5000000
    ∷ (10000000 ∷ (20000000 ∷ (50000000 ∷ (100000000 ∷ [])))))))))))))))))))

-- a time below the columns, and one at the left of the rows: a stroke and its milliseconds
abbrev pub time_below : Scale → ℕ → ℕ → List SeenFigure
time_below scale x time =
    seen.line class.Margin x (bottom_of scale) x (bottom_of scale + 50)
    ∷ (seen.text class.Middle x (bottom_of scale + 200) (milliseconds_said time) ∷ [])

abbrev pub time_beside : ℕ → ℕ → List SeenFigure
time_beside y time =
    seen.line class.Margin 1150 y 1200 y
    ∷ (seen.text class.End 1110 (y + 40) (milliseconds_said time) ∷ [])

-- the n-th round time of a ruler, if it is not before the first
abbrev pub column_time : Scale → Ruler → ℕ → ℕ → List SeenFigure
column_time scale ruler round n =
    if nat_le ruler.first (n * round)
    then time_below scale (1200 + along ruler scale.width (n * round)) (n * round) else []

abbrev pub row_time : Scale → Ruler → ℕ → ℕ → List SeenFigure
row_time scale ruler round n =
    if nat_le ruler.first (n * round)
    then time_beside (bottom_of scale - along ruler scale.height (n * round)) (n * round) else []

-- those up to the last
abbrev pub column_times : Scale → Ruler → ℕ → List SeenFigure
column_times scale ruler round =
    each_below (last_of ruler / round + 1) (column_time scale ruler round)

abbrev pub row_times : Scale → Ruler → ℕ → List SeenFigure
row_times scale ruler round =
    each_below (last_of ruler / round + 1) (row_time scale ruler round)

-- what moves along the columns stands below their numbers, what moves along the rows above theirs
abbrev pub columns_said : Scale → Ruler → List SeenFigure
columns_said scale ruler =
    column_times scale ruler (round_of ruler scale.width 700)
    ++ seen.text class.Begin 1200 (bottom_of scale + 430) ruler.words.items ∷ []

abbrev pub rows_said : Scale → Option Ruler → List SeenFigure
rows_said scale None = []
rows_said scale (Some ruler) =
    row_times scale ruler (round_of ruler scale.height 220)
    ++ seen.text class.Begin 500 960 ruler.words.items ∷ []
