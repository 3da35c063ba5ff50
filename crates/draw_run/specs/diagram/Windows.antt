-- The ticks that a diagram shows.
use Rattle.std.specs.Prelude.{◌<◌, ◌≤◌, ℕ}
use Rattle.std.specs.List.{All}
use Rattle.draw_run.specs.declared.diagram.rows.Row.{Row}
use Rattle.draw_run.specs.{declared.diagram.stretch.Stretch.Stretch, declared.diagram.window.Window.Window}

abbrev pub BeginsBelow : ℕ → Stretch → Type 0
BeginsBelow horizon s = s.from < horizon

abbrev pub IsTickBelow : ℕ → ℕ → Type 0
IsTickBelow horizon t = t < horizon

-- the row changes at no tick from the horizon on, and has no mark there
abbrev pub ChangesBelow : ℕ → Row → Type 0
ChangesBelow horizon row =
    All (BeginsBelow horizon) row.stretches.items × All (IsTickBelow horizon) row.marks.items

-- the tick is shown
abbrev pub IsInWindow : Window → ℕ → Type 0
IsInWindow window t = (window.first ≤ t) × (t ≤ window.last)

-- the second shows all that the first shows
abbrev pub ShowsMore : Window → Window → Type 0
ShowsMore narrow wide = (wide.first ≤ narrow.first) × (narrow.last ≤ wide.last)

-- the tick at which the stretch begins is shown, if the row changes there
abbrev pub IsChangeShown : Window → Stretch → Type 0
IsChangeShown window s = 0 < s.from → IsInWindow window s.from

-- each change of the row is shown, and each of its marks
abbrev pub IsShown : Window → Row → Type 0
IsShown window row =
    All (IsChangeShown window) row.stretches.items × All (IsInWindow window) row.marks.items
