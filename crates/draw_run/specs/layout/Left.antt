-- How much room the names take at the left of the axis.
use Rattle.std.specs.Prelude.{◌/◌, ◌==◌, ◌&&◌, ◌||◌, ℕ, Bool, List, [], ◌∷◌, max, min}
use Rattle.std.specs.Prelude.{nat_le, if◌then◌else◌}
use Rattle.model_line.specs.declared.line.Line.{Line}
use Rattle.model_line.specs.NamesByNumber.{terminal_name}
use Rattle.draw_run.specs.declared.diagram.{diagram.Diagram.Diagram, rows.Row.Row}
use Rattle.draw_run.specs.declared.layout.scale.Scale.{Scale}
use Rattle.draw_run.specs.{layout.Rows.row_name, layout.Rows.terminal_of, layout.Scale.more}

-- M, W, m and w
abbrev pub is_wide : ℕ → Bool
is_wide b = b == 77 || b == 87 || b == 109 || b == 119

-- A to Z
abbrev pub is_capital : ℕ → Bool
is_capital b = nat_le 65 b && nat_le b 90

-- how wide a letter of a name is at most, at 12 pixels, in a wide sans-serif font
abbrev pub letter_width : ℕ → ℕ
letter_width b = if is_wide b then 120 else if is_capital b then 95 else 77

-- how wide words are at most
abbrev pub width_of : List ℕ → ℕ
width_of [] = 0
width_of (b ∷ rest) = more (width_of rest) (letter_width b)

-- bold letters are wider by an eighth
abbrev pub bold_width_of : List ℕ → ℕ
bold_width_of words = more (width_of words) (width_of words / 8)

-- how wide the name of a row is, if it is drawn, and that of its terminal
abbrev pub row_width : Line → Row → ℕ
row_width of shown =
    if shown.is_drawn
    then max (width_of (row_name of shown.trace))
    (bold_width_of (terminal_name of (terminal_of of shown.trace))) else 0

abbrev pub widest : Line → List Row → ℕ
widest of [] = 0
widest of (shown ∷ rest) = max (row_width of shown) (widest of rest)

-- where the axis begins: behind the names, 140 before and 100 behind them
abbrev pub left_of : Line → List Row → ℕ
left_of of rows = min (max (more (widest of rows) 240) 2000) 3500

abbrev pub scale_of : Line → Diagram → Scale
scale_of of diagram = record { left = left_of of diagram.rows.items; window = diagram.window }
