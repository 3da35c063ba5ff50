-- The laws of a drawing: what a reader may rest on.
use Rattle.std.specs.Prelude.{◌≡◌, ◌<◌, ◌≤◌, ◌+◌, ◌*◌, ◌^◌, ℕ, List, length}
use Rattle.std.specs.List.{All, AllPairs, flat_map}
use Rattle.model_line.specs.{declared.line.Line.Line, declared.script.Script.Script}
use Rattle.net_gates.specs.declared.gate.Gate.{Gate}
use Rattle.draw_run.specs.diagram.Traces.{ShownPairs}
use Rattle.draw_run.specs.{declared.diagram.diagram.Diagram.Diagram, diagram.Diagrams.IsDiagramOf}
use Rattle.draw_run.specs.{diagram.Traces.trace_pair, diagram.Windows.IsInWindow}
use Rattle.draw_run.specs.declared.diagram.rows.Row.{Row}
use Rattle.draw_shapes.specs.declared.rows.Rows.{Rows}
use Rattle.model_timing.specs.declared.step.Step.{Step}
use Rattle.draw_run.specs.declared.layout.scale.Scale.{Scale}
use Rattle.draw_run.specs.{layout.Covered.ShowsTick, layout.Drawings.row_drawn, layout.Drawings.rows_drawn}
use Rattle.draw_run.specs.{layout.Placed.IsBelow, layout.Placed.placed, layout.Scale.length_of, layout.Scale.place_of}
use Rattle.draw_run.specs.layout.Left.{scale_of}

-- a later tick stands no further left
abbrev pub PlacesKeepTheOrder : Type 0
PlacesKeepTheOrder =
    (scale : Scale) (s t : ℕ) → s ≤ t → place_of scale s ≤ place_of scale t

-- no two ticks that are shown, nor their ends, stand at one place, where no more are shown than the
-- axis is long
abbrev pub ShownTicksStandApart : Type 0
ShownTicksStandApart = (scale : Scale) (s t : ℕ)
    → scale.window.last < scale.window.first + length_of scale
    → scale.window.first ≤ s → s < t → t ≤ scale.window.last + 1
    → place_of scale s < place_of scale t

-- in the diagram of pairs, whatever the base of a row, its bars show at each tick that is shown what
-- the row's pair is there
abbrev pub BarsShowTheHistory : Type 0
BarsShowTheHistory = (line : Line) (gates : List Gate) (script : Script) (w : ShownPairs)
    (steps : List (Step ℕ)) (which : Rows) (diagram : Diagram)
    → IsDiagramOf line gates script w steps which diagram
    → All (λ (row : Row). (base t : ℕ) → IsInWindow diagram.window t
    → ShowsTick (scale_of line diagram) base row t (trace_pair script w row.trace t))
    diagram.rows.items

-- the rows of a drawing stand on these bases,
abbrev pub RowsStandOnBases : Type 0
RowsStandOnBases = (line : Line) (scale : Scale) (diagram : Diagram) (y : ℕ) (rows : List Row)
    → rows_drawn line scale diagram y rows
    ≡ flat_map (λ (on : ℕ × Row). row_drawn line scale diagram on.0 on.1) (placed y rows)

-- and lie apart: each with its bars and marks below the bases of all before it, as far as 32 bits hold their
-- places
abbrev pub RowsLieApart : Type 0
RowsLieApart = (y : ℕ) (rows : List Row) → y + 700 * length rows < 2 ^ 32
    → AllPairs IsBelow (placed y rows)
