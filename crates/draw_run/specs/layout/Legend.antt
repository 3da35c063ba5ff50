-- The legend: which ticks are shown, and what the bars and marks are that the rows have.
use Rattle.std.specs.Prelude.{◌++◌, ◌-◌, ◌==◌, ◌&&◌, ℕ, Bool, List, [], ◌∷◌, codes, decimal, nat_le}
use Rattle.std.specs.Prelude.{if◌then◌else◌}
use Rattle.std.specs.List.{flat_map, list_any}
use Rattle.model_line.specs.declared.line.Line.{Line}
use Rattle.draw_run.specs.{declared.diagram.diagram.Diagram.Diagram, declared.diagram.window.Window.Window}
use Rattle.draw_run.specs.declared.diagram.{rows.Row.Row, stretch.Stretch.Stretch, trace.Trace.Trace}
use Rattle.draw_run.specs.diagram.Drawn.{has_marks, is_shown}
use Rattle.draw_shapes.specs.declared.class.Class.{Class}
use Rattle.draw_shapes.specs.declared.class.Class.TheVariants as class
use Rattle.draw_shapes.specs.{Seen.SeenFigure}
use Rattle.draw_shapes.specs.Seen as seen
use Rattle.draw_run.specs.contracts.layout.bar.BarPartialEq.TheImpl.{eq-value as bar_eq}
use Rattle.draw_run.specs.declared.layout.bar.Bar.{Bar}
use Rattle.draw_run.specs.declared.layout.bar.Bar.TheVariants as look
use Rattle.draw_run.specs.declared.layout.bar.TheConstants.{BARS}
use Rattle.draw_run.specs.{layout.Rows.bar_of, layout.Rows.class_of, layout.Scale.more, layout.Words.milliseconds_said}

-- ---- which ticks are shown

abbrev pub shows_all : ℕ → Window → Bool
shows_all last window = window.first == 0 && nat_le last window.last

unfoldable pub all_said : ℕ → List ℕ
all_said last = codes "All ticks are shown, 0 to " ++ decimal last ++ codes "."

unfoldable pub some_said : ℕ → Window → List ℕ
some_said last window =
    codes "Ticks " ++ decimal window.first ++ codes " to " ++ decimal window.last
    ++ codes " of 0 to " ++ decimal last ++ codes " are shown; nothing changes at the others."

abbrev pub shown_said : ℕ → Window → List ℕ
shown_said last window =
    if shows_all last window then all_said last else some_said last window

-- how long a tick is, and which ticks are shown
unfoldable pub legend_said : Line → Window → List ℕ
legend_said of window =
    codes "Ticks of " ++ milliseconds_said of.tick_us ++ codes " ms. "
    ++ shown_said (of.horizon - 1) window

-- ---- which bars and marks there are

-- the bar of a stretch looks so
abbrev pub looks_so : Bar → Trace → Stretch → Bool
looks_so bar trace s = is_shown s && bar_eq.it (bar_of trace s.value) bar

-- the row is drawn, and some bar of it looks so
abbrev pub row_has_bar : Bar → Row → Bool
row_has_bar bar shown = shown.is_drawn && list_any (looks_so bar shown.trace) shown.stretches.items

abbrev pub has_bar : Bar → List Row → Bool
has_bar bar rows = list_any (row_has_bar bar) rows

-- the row is drawn, and has a mark
abbrev pub row_has_mark : Row → Bool
row_has_mark shown = shown.is_drawn && has_marks shown.marks.items

abbrev pub has_mark : List Row → Bool
has_mark rows = list_any row_has_mark rows

-- ---- what they are

-- where the entry of a bar stands, from the left and below the note of ticks
abbrev pub entry_left : Bar → ℕ
entry_left look.Seen = 140
entry_left look.LogicOn = 2100
entry_left look.LogicOpen = 2100
entry_left look.KeyOn = 4800
entry_left look.KeyOpen = 4800
entry_left look.TripOn = 7300
entry_left look.TripOpen = 7300

abbrev pub entry_below : Bar → ℕ
entry_below look.Seen = 400
entry_below look.LogicOn = 400
entry_below look.LogicOpen = 580
entry_below look.KeyOn = 400
entry_below look.KeyOpen = 580
entry_below look.TripOn = 400
entry_below look.TripOpen = 580

abbrev pub bar_said : Bar → List ℕ
bar_said look.Seen = codes "seen, or channel lost"
bar_said look.LogicOn = codes "received, or a step of the scheme"
bar_said look.LogicOpen = codes "on or off, by the delays"
bar_said look.KeyOn = codes "key on"
bar_said look.KeyOpen = codes "key on or off, by the delays"
bar_said look.TripOn = codes "trip on"
bar_said look.TripOpen = codes "trip on or off, by the delays"

-- a bar and what it is
unfoldable pub entry : ℕ → ℕ → Class → List ℕ → List SeenFigure
entry x y looks words =
    seen.rectangle looks x (y - 110) 240 120
    ∷ (seen.text class.Quiet (more x 310) y words ∷ [])

-- where some row has such a bar
abbrev pub entry_if_any : List Row → ℕ → Bar → List SeenFigure
entry_if_any rows top bar =
    if has_bar bar rows
    then entry (entry_left bar) (more top (entry_below bar)) (class_of bar) (bar_said bar) else []

-- a mark and what it is, where some row has one
unfoldable pub mark_entry : ℕ → List ℕ → List SeenFigure
mark_entry y words =
    seen.rectangle class.Step 250 (y - 130) 20 150
    ∷ (seen.text class.Quiet 450 y words ∷ [])

abbrev pub mark_entry_if_any : List Row → ℕ → List SeenFigure
mark_entry_if_any rows top =
    if has_mark rows then mark_entry (more top 580) (codes "change of channel delay") else []

abbrev pub legend : Line → Diagram → ℕ → List SeenFigure
legend of diagram top =
    seen.text class.Quiet 140 (more top 180) (legend_said of diagram.window) ∷ []
    ++ flat_map (entry_if_any diagram.rows.items top) BARS
    ++ mark_entry_if_any diagram.rows.items top
