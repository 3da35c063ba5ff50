-- The drawing of a diagram: what a reader sees of it.
use Rattle.std.specs.Prelude.{◌++◌, ◌+◌, ◌-◌, ℕ, Bool, true, false, List, [], ◌∷◌, codes}
use Rattle.std.specs.Prelude.{if◌then◌else◌}
use Rattle.model_line.specs.declared.script.Element.TheVariants.{Z1, Z2, Rv, Uv, Cur}
use Rattle.model_line.specs.declared.script.Kind.TheVariants.{Internal, External}
use Rattle.model_line.specs.declared.script.Script.{Script}
use Rattle.model_line.specs.{declared.line.Line.Line}
use Rattle.model_line.specs.{declared.script.Element.Element, declared.script.Kind.Kind}
use Rattle.model_line.specs.NamesByNumber.{scheme_initials, terminal_name}
use Rattle.draw_run.specs.declared.diagram.{diagram.Diagram.Diagram, rows.Row.Row, trace.Trace.Trace}
use Rattle.draw_run.specs.declared.diagram.trace.Trace.TheVariants.{Seen, Lost, Logic, Key, Trip}
use Rattle.draw_shapes.specs.declared.class.Class.TheVariants as class
use Rattle.draw_shapes.specs.{Seen.SeenFigure, Seen.SeenShape, Seen.SeenDrawing}
use Rattle.draw_shapes.specs.Seen as seen
use Rattle.draw_run.specs.declared.layout.subject.Subject.{Subject}
use Rattle.draw_run.specs.declared.layout.subject.Subject.TheVariants as subject
use Rattle.draw_run.specs.{layout.Rows.row_shape, layout.Scale.more, layout.Trips.trip_drawn}
use Rattle.draw_run.specs.{layout.Left.scale_of, declared.layout.scale.Scale.Scale}
use Rattle.draw_run.specs.{layout.Axis.axis, layout.Marks.marks, layout.Legend.legend}

-- ---- the heading

abbrev pub kind_said : Kind → List ℕ
kind_said Internal = codes ", internal fault "
kind_said External = codes ", external fault "

abbrev pub subject_said : Subject → List ℕ
subject_said (subject.Play timing) = codes ": timing " ++ timing
subject_said subject.EveryChoice = codes ": every choice of delays"

-- `POTT, internal fault F1: every choice of delays`
abbrev pub heading : Line → Script → Subject → List ℕ
heading of script what =
    scheme_initials of.scheme ++ kind_said script.kind ++ script.name ++ subject_said what

-- ---- the rows, each below the one before

abbrev pub is_z1 : Element → Bool
is_z1 Z1 = true
is_z1 Z2 = false
is_z1 Rv = false
is_z1 Uv = false
is_z1 Cur = false

-- the row is the first of its terminal
abbrev pub begins_terminal : Trace → Bool
begins_terminal (Seen place) = is_z1 place.element
begins_terminal (Lost c) = false
begins_terminal (Logic what gate) = false
begins_terminal (Key k) = false
begins_terminal (Trip k) = false

-- the room for the bars of a row that is drawn
abbrev pub room_above : Trace → ℕ
room_above (Seen place) = 190
room_above (Lost c) = 190
room_above (Logic what gate) = 190
room_above (Key k) = 250
room_above (Trip k) = 250

-- what lies from the row above to the base of a row: before a terminal's first row also its name
abbrev pub height_above : Row → ℕ
height_above shown =
    (if begins_terminal shown.trace then 270 else 0)
    + (if shown.is_drawn then room_above shown.trace else 0)

-- below a trip stands its margin
abbrev pub height_below : Trace → ℕ
height_below (Seen place) = 0
height_below (Lost c) = 0
height_below (Logic what gate) = 0
height_below (Key k) = 0
height_below (Trip k) = 180

-- where a row stands that comes below y
abbrev pub base_below : ℕ → Row → ℕ
base_below y shown = more y (height_above shown)

-- where it ends
abbrev pub end_below : ℕ → Row → ℕ
end_below y shown = more (base_below y shown) (height_below shown.trace)

-- a terminal's name above its rows
abbrev pub name_drawn : Line → Row → ℕ → ℕ → List SeenFigure
name_drawn of shown k base =
    seen.text class.Terminal 140 (base - (if shown.is_drawn then 190 else 0) - 60)
    (terminal_name of k) ∷ []

abbrev pub beside_trace : Line → Scale → Diagram → Row → ℕ → Trace → List SeenFigure
beside_trace of scale diagram shown base (Seen place) =
    if is_z1 place.element then name_drawn of shown place.terminal base else []
beside_trace of scale diagram shown base (Lost c) = []
beside_trace of scale diagram shown base (Logic what gate) = []
beside_trace of scale diagram shown base (Key k) = []
beside_trace of scale diagram shown base (Trip k) = trip_drawn of scale diagram k base

-- what is written at a row: at a terminal's first its name, at its trip the times
abbrev pub beside : Line → Scale → Diagram → ℕ → Row → List SeenFigure
beside of scale diagram base shown = beside_trace of scale diagram shown base shown.trace

-- a row on its base, if it is drawn, and what is written at it
unfoldable pub row_drawn : Line → Scale → Diagram → ℕ → Row → List SeenShape
row_drawn of scale diagram base shown =
    (if shown.is_drawn then row_shape of scale base shown ∷ [] else [])
    ++ seen.plain (beside of scale diagram base shown) ∷ []

-- rows from y on, one below the other
abbrev pub rows_drawn : Line → Scale → Diagram → ℕ → List Row → List SeenShape
rows_drawn of scale diagram y [] = []
rows_drawn of scale diagram y (shown ∷ rest) =
    row_drawn of scale diagram (base_below y shown) shown
    ++ rows_drawn of scale diagram (end_below y shown) rest

-- where they end
abbrev pub bottom_of : ℕ → List Row → ℕ
bottom_of y [] = y
bottom_of y (shown ∷ rest) = bottom_of (end_below y shown) rest

-- ---- the whole

-- paper as large as the drawing, and the heading
abbrev pub head_drawn : List ℕ → ℕ → List SeenFigure
head_drawn said height =
    seen.rectangle class.Paper 0 0 10000 height ∷ (seen.text class.Heading 140 260 said ∷ [])

-- the shapes of a diagram whose rows end at `bottom`, the later ones over the earlier ones
abbrev pub shapes_above : Line → Scale → Diagram → List ℕ → ℕ → List SeenShape
shapes_above of scale diagram said bottom =
    seen.plain (head_drawn said (more (more bottom 420) 720))
    ∷ (seen.plain (axis of scale 600 bottom)
    ∷ (rows_drawn of scale diagram 600 diagram.rows.items
    ++ seen.plain (marks of scale diagram 600 bottom)
    ∷ (seen.plain (legend of diagram (more bottom 420)) ∷ [])))

abbrev pub shapes_of : Line → Script → Subject → Diagram → List SeenShape
shapes_of of script what diagram =
    shapes_above of (scale_of of diagram) diagram (heading of script what)
    (bottom_of 600 diagram.rows.items)

-- the drawing, under its heading as its title
abbrev pub drawing_of : Line → Script → Subject → Diagram → SeenDrawing
drawing_of of script what diagram = record {
  title = heading of script what;
  height = more (more (bottom_of 600 diagram.rows.items) 420) 720;
  shapes = shapes_of of script what diagram;
}
