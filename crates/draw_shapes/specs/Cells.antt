-- The cells of a grid, and the border of those that are held.
use Rattle.std.specs.Prelude.{◌+◌, ◌-◌, ◌/◌, ◌%◌, ◌++◌, ◌&&◌, ℕ, Bool, true, false, not, List}
use Rattle.std.specs.Prelude.{[], ◌∷◌, map, min, get_or, nat_lt, if◌then◌else◌}
use Rattle.draw_shapes.specs.declared.class.Class.{Class}
use Rattle.draw_shapes.specs.declared.class.Class.TheVariants as class
use Rattle.draw_shapes.specs.{Seen.SeenFigure, Seen.SeenShape}
use Rattle.draw_shapes.specs.Seen as seen
use Rattle.draw_shapes.specs.declared.{grid.GridCell.GridCell, grid.Look.Look, scale.Scale.Scale}
use Rattle.draw_shapes.specs.declared.grid.Look.TheVariants.{Held, Open, Fails}
use Rattle.draw_shapes.specs.Scale.{x_of, y_of}

-- what is held is full, what fails is hatched, what is open is pale
abbrev pub class_of : Look → Class
class_of Held = class.LogicHatch
class_of Open = class.KeyPale
class_of Fails = class.TripOpen

-- a square dot in the middle, a third as large as the cell
abbrev pub dot_size : Scale → ℕ
dot_size scale = min scale.width scale.height / 3

abbrev pub dot : Scale → ℕ → ℕ → SeenFigure
dot scale x y =
    seen.rectangle class.KeyOn (x + (scale.width - dot_size scale) / 2)
    (y + (scale.height - dot_size scale) / 2) (dot_size scale) (dot_size scale)

-- what is open has a dot
abbrev pub dotted : Scale → ℕ → ℕ → Look → List SeenFigure
dotted scale x y Held = []
dotted scale x y Open = dot scale x y ∷ []
dotted scale x y Fails = []

-- a cell with this corner
abbrev pub cell_figures : Scale → ℕ → ℕ → Look → List SeenFigure
cell_figures scale x y look =
    seen.rectangle (class_of look) x y scale.width scale.height ∷ dotted scale x y look

abbrev pub cell_drawn : Scale → ℕ → GridCell → SeenShape
cell_drawn scale place cell =
    seen.titled cell.words.items
    (cell_figures scale (x_of scale (place / scale.rows)) (y_of scale (place % scale.rows)) cell.look)

-- the cells from this place on
abbrev pub cells_drawn : Scale → ℕ → List GridCell → List SeenShape
cells_drawn scale place [] = []
cells_drawn scale place (cell ∷ cells) =
    cell_drawn scale place cell ∷ cells_drawn scale (place + 1) cells

-- ---- the border

abbrev pub is_held : Look → Bool
is_held Held = true
is_held Open = false
is_held Fails = false

-- the cell of this place is there and held
abbrev pub held_at : List GridCell → ℕ → Bool
held_at cells place = get_or (map (λ cell. is_held cell.look) cells) place false

-- one of the two is held, and one is not
abbrev pub parts : List GridCell → ℕ → ℕ → Bool
parts cells a b = if held_at cells a then not (held_at cells b) else held_at cells b

-- a bar between a cell and its right neighbour, and between it and its upper one
abbrev pub right_bar : Scale → List GridCell → ℕ → List SeenFigure
right_bar scale cells place =
    if nat_lt (place / scale.rows + 1) scale.columns && parts cells place (place + scale.rows)
    then seen.rectangle class.Margin (x_of scale (place / scale.rows + 1) - 10)
    (y_of scale (place % scale.rows)) 20 scale.height ∷ [] else []

abbrev pub upper_bar : Scale → List GridCell → ℕ → List SeenFigure
upper_bar scale cells place =
    if nat_lt (place % scale.rows + 1) scale.rows && parts cells place (place + 1)
    then seen.rectangle class.Margin (x_of scale (place / scale.rows))
    (y_of scale (place % scale.rows) - 10) scale.width 20 ∷ [] else []

abbrev pub bars_at : Scale → List GridCell → ℕ → List SeenFigure
bars_at scale cells place = right_bar scale cells place ++ upper_bar scale cells place
