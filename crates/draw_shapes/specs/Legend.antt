-- The mark of what is declared, what the legend says, and what is lost beyond.
use Rattle.std.specs.Prelude.{◌+◌, ◌-◌, ◌/◌, ◌++◌, ◌&&◌, ℕ, Bool, true, false, not, List, [], ◌∷◌}
use Rattle.std.specs.Prelude.{codes, nat_le, Option, None, Some, if◌then◌else◌}
use Rattle.std.specs.List.{list_all, list_any}
use Rattle.draw_shapes.specs.declared.class.Class.TheVariants as class
use Rattle.draw_shapes.specs.{Seen.SeenFigure}
use Rattle.draw_shapes.specs.Seen as seen
use Rattle.draw_shapes.specs.declared.{grid.Grid.Grid, grid.GridCell.GridCell, grid.Look.Look}
use Rattle.draw_shapes.specs.declared.{grid.Ruler.Ruler, scale.Scale.Scale, legend.Entry.Entry}
use Rattle.draw_shapes.specs.declared.grid.Look.TheVariants as look
use Rattle.draw_shapes.specs.declared.legend.Entry.TheVariants as entry
use Rattle.draw_shapes.specs.Scale.{along, bottom_of, last_of}
use Rattle.draw_shapes.specs.Cells.{cell_figures, is_held}

-- ---- the mark

-- a ring of squares round a dot
abbrev pub target : ℕ → ℕ → List SeenFigure
target x y =
    seen.rectangle class.Margin (x - 60) (y - 60) 120 120
    ∷ (seen.rectangle class.Paper (x - 40) (y - 40) 80 80
    ∷ (seen.rectangle class.Margin (x - 15) (y - 15) 30 30 ∷ []))

-- where a ruler's declared time lies, if there is one from its first to its last
abbrev pub shown_at : Ruler → ℕ → Option ℕ → Option ℕ
shown_at ruler long None = None
shown_at ruler long (Some time) =
    if nat_le ruler.first time && nat_le time (last_of ruler)
    then Some (along ruler long time) else None

abbrev pub across : Scale → Grid → Option ℕ
across scale grid = shown_at grid.x scale.width grid.x.declared

-- without a second ruler in the middle of the one row
abbrev pub up_by : Scale → Option Ruler → Option ℕ
up_by scale None = Some (scale.height / 2)
up_by scale (Some ruler) = shown_at ruler scale.height ruler.declared

abbrev pub marked_at : Scale → Option ℕ → Option ℕ → List SeenFigure
marked_at scale None b = []
marked_at scale (Some a) None = []
marked_at scale (Some a) (Some b) = target (1200 + a) (bottom_of scale - b)

abbrev pub mark : Scale → Grid → List SeenFigure
mark scale grid = marked_at scale (across scale grid) (up_by scale grid.y)

-- ---- the legend: of what is there alone

abbrev pub both_are : Option ℕ → Option ℕ → Bool
both_are None b = false
both_are (Some a) None = false
both_are (Some a) (Some b) = true

abbrev pub is_open : Look → Bool
is_open look.Held = false
is_open look.Open = true
is_open look.Fails = false

abbrev pub is_failing : Look → Bool
is_failing look.Held = false
is_failing look.Open = false
is_failing look.Fails = true

abbrev pub some_held : List GridCell → Bool
some_held cells = list_any (λ cell. is_held cell.look) cells

abbrev pub is_there : Scale → Grid → Entry → Bool
is_there scale grid entry.Held = some_held grid.cells.items
is_there scale grid entry.Open = list_any (λ cell. is_open cell.look) grid.cells.items
is_there scale grid entry.Fails = list_any (λ cell. is_failing cell.look) grid.cells.items
is_there scale grid entry.Border =
    some_held grid.cells.items && not (list_all (λ cell. is_held cell.look) grid.cells.items)
is_there scale grid entry.Declared = both_are (across scale grid) (up_by scale grid.y)

-- a cell of the legend
abbrev pub sample : Scale
sample = record { columns = 1; rows = 1; width = 220; height = 160 }

abbrev pub sign_of : Entry → ℕ → List SeenFigure
sign_of entry.Held y = cell_figures sample 7300 y look.Held
sign_of entry.Open y = cell_figures sample 7300 y look.Open
sign_of entry.Fails y = cell_figures sample 7300 y look.Fails
sign_of entry.Border y = seen.rectangle class.Margin 7300 (y + 70) 220 20 ∷ []
sign_of entry.Declared y = target 7410 (y + 80)

abbrev pub words_of : Grid → Entry → List ℕ
words_of grid entry.Held = codes "held: each obligation is always met"
words_of grid entry.Open = codes "open: neither is known"
words_of grid entry.Fails = codes "fails: some obligation can fail"
words_of grid entry.Border = codes "border of what is held"
words_of grid entry.Declared = grid.declared.items

abbrev pub entry_drawn : Grid → Entry → ℕ → List SeenFigure
entry_drawn grid one y =
    sign_of one y ++ seen.text class.Begin 7620 (y + 120) (words_of grid one) ∷ []

-- the entries of what is there, one below the other
abbrev pub entries_from : Scale → Grid → ℕ → List Entry → List SeenFigure
entries_from scale grid y [] = []
entries_from scale grid y (one ∷ rest) =
    if is_there scale grid one
    then entry_drawn grid one y ++ entries_from scale grid (y + 260) rest
    else entries_from scale grid y rest

-- ---- what is lost beyond

abbrev pub lines_from : ℕ → List (List ℕ) → List SeenFigure
lines_from y [] = []
lines_from y (words ∷ rest) = seen.text class.Begin 7300 y words ∷ lines_from (y + 200) rest

abbrev pub beyond_heading : SeenFigure
beyond_heading = seen.text class.Terminal 7300 2700 (codes "lost first beyond the border")

-- under a heading, if anything is
abbrev pub beyond_said : List (List ℕ) → List SeenFigure
beyond_said [] = []
beyond_said (words ∷ rest) = (beyond_heading ∷ []) ++ lines_from 2920 (words ∷ rest)
