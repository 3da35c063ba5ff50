-- Where the rows of a drawing stand.
use Rattle.std.specs.Prelude.{◌<◌, ◌-◌, ℕ, List, [], ◌∷◌, IsTrue}
use Rattle.draw_run.specs.declared.diagram.rows.Row.{Row}
use Rattle.draw_run.specs.layout.Drawings.{base_below, end_below}
use Rattle.draw_run.specs.layout.Rows.{row_height}

-- the rows from y on, one below the other, each with its base
abbrev pub placed : ℕ → List Row → List (ℕ × Row)
placed y [] = []
placed y (shown ∷ rest) = (base_below y shown, shown) ∷ placed (end_below y shown) rest

-- a row, if it is drawn, lies below the base of another, with its bars and marks
abbrev pub IsBelow : (ℕ × Row) → (ℕ × Row) → Type 0
IsBelow upper lower = IsTrue lower.1.is_drawn → upper.0 < lower.0 - row_height lower.1.trace
