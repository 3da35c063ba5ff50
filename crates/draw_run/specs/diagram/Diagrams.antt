-- The diagram of a script over a history.
use Rattle.std.specs.Prelude.{◌≡◌, ◌<◌, ◌≤◌, ℕ, List, map, IfSome}
use Rattle.std.specs.List.{All}
use Rattle.model_history.specs.Recorded.{first_ticks}
use Rattle.model_line.specs.{declared.line.Line.Line, declared.script.Script.Script}
use Rattle.model_line.specs.Parameters.{terminal_count}
use Rattle.net_gates.specs.declared.gate.Gate.{Gate}
use Rattle.model_timing.specs.declared.step.Step.{Step}
use Rattle.draw_run.specs.{declared.diagram.diagram.Diagram.Diagram, declared.diagram.rows.Row.Row}
use Rattle.draw_shapes.specs.declared.rows.Rows.{Rows}
use Rattle.draw_run.specs.{diagram.DelaySteps.marks_of, diagram.Drawn.is_drawn}
use Rattle.draw_run.specs.{declared.diagram.trace.Trace.Trace, diagram.Stretches.AreStretches}
use Rattle.draw_run.specs.{diagram.Times.trip_times_of, diagram.Times.is_begun, diagram.Traces.traces_of}
use Rattle.draw_run.specs.diagram.Traces.{ShownPairs}
use Rattle.draw_run.specs.{diagram.Traces.trace_pair, diagram.Windows.IsInWindow, diagram.Windows.IsShown}
use Rattle.run_waves.specs.waves.FirstTick.{first_on}
use Rattle.judge_report.specs.Deadlines.{deadline_of}

abbrev pub trace_of : Row → Trace
trace_of row = row.trace

-- the stretches of the row are those of its pairs, from tick 0 to the horizon
abbrev pub IsRow : Script → ShownPairs → ℕ → Row → Type 0
IsRow script w horizon row =
    AreStretches (trace_pair script w row.trace) 0 row.stretches.items horizon

-- and its marks are the steps of delays that it is marked by, and it is drawn if it is one of those
-- rows
pub record IsMarkedRow (line : Line) (script : Script) (w : ShownPairs) (steps : List (Step ℕ))
    (which : Rows) (row : Row) : Type 0 where
  pub stretches : IsRow script w line.horizon row
  pub marks : row.marks.items ≡ marks_of line steps row.trace
  pub drawn : row.is_drawn ≡ is_drawn which row.trace row.stretches.items row.marks.items

pub record IsDiagramOf (line : Line) (gates : List Gate) (script : Script) (w : ShownPairs)
    (steps : List (Step ℕ)) (which : Rows) (diagram : Diagram) : Type 0 where
  pub traces : map trace_of diagram.rows.items ≡ traces_of line gates
  pub rows : All (IsMarkedRow line script w steps which) diagram.rows.items
  pub trips : diagram.trips.items
      ≡ first_ticks (λ k. trip_times_of script line.horizon (w.trip k)) (terminal_count line)
  pub inception : diagram.inception ≡ first_on (is_begun script.spans.items) line.horizon
  pub deadline : diagram.deadline ≡ deadline_of script.kind script.deadline
  -- some ticks below the horizon are shown
  pub some : diagram.window.first ≤ diagram.window.last
  pub within : diagram.window.last < line.horizon
  -- nothing changes at a tick that is not shown, and no delay has a step there
  pub shown : All (IsShown diagram.window) diagram.rows.items
  pub marked : IfSome diagram.inception (IsInWindow diagram.window)
  pub due : IfSome diagram.deadline (IsInWindow diagram.window)
