-- The time axis: round ticks, each with a line through all rows and two numbers below.
use Rattle.std.specs.Prelude.{◌++◌, ◌-◌, ◌%◌, ◌==◌, ◌&&◌, ℕ, List, [], ◌∷◌}
use Rattle.std.specs.Prelude.{codes, decimal, nat_le, nat_lt, if◌then◌else◌}
use Rattle.model_history.specs.Each.{each_below}
use Rattle.model_line.specs.declared.line.Line.{Line}
use Rattle.draw_run.specs.declared.layout.scale.Scale.{Scale}
use Rattle.draw_shapes.specs.declared.class.Class.TheVariants as class
use Rattle.draw_shapes.specs.Seen.{SeenFigure}
use Rattle.draw_shapes.specs.Seen as seen
use Rattle.draw_run.specs.{layout.Scale.place_of, layout.Scale.more, layout.Scale.step_of}
use Rattle.draw_run.specs.{layout.Words.milliseconds_said, layout.Words.microseconds_of}

-- what the two rows of numbers are
abbrev pub units : Scale → ℕ → List SeenFigure
units scale bottom =
    seen.text class.End (scale.left - 520) (more bottom 170) (codes "tick")
    ∷ (seen.text class.QuietEnd (scale.left - 520) (more bottom 330) (codes "ms") ∷ [])

-- a tick: a line where it begins, its number and its milliseconds
abbrev pub tick_drawn : Line → Scale → ℕ → ℕ → ℕ → List SeenFigure
tick_drawn of scale top bottom t =
    seen.line class.Grid (place_of scale t) top (place_of scale t) bottom
    ∷ (seen.text class.Middle (place_of scale t) (more bottom 170) (decimal t)
    ∷ (seen.text class.QuietMiddle (place_of scale t) (more bottom 330)
    (milliseconds_said (microseconds_of of.tick_us t)) ∷ []))

-- a tick is drawn if it is shown and round
abbrev pub round_tick : Line → Scale → ℕ → ℕ → ℕ → List SeenFigure
round_tick of scale top bottom t =
    if nat_le scale.window.first t && t % step_of scale of.tick_us == 0
    then tick_drawn of scale top bottom t else []

-- two slanted strokes through the foot of the axis
abbrev pub cut : ℕ → ℕ → List SeenFigure
cut x bottom =
    seen.line class.Margin (x - 50) (more bottom 50) (x - 10) (bottom - 50)
    ∷ (seen.line class.Margin (more x 10) (more bottom 50) (more x 50) (bottom - 50) ∷ [])

-- the axis is cut where ticks before or behind are not shown
abbrev pub left_cut : Scale → ℕ → List SeenFigure
left_cut scale bottom = if nat_lt 0 scale.window.first then cut scale.left bottom else []

abbrev pub right_cut : Line → Scale → ℕ → List SeenFigure
right_cut of scale bottom =
    if nat_lt scale.window.last (of.horizon - 1) then cut 7500 bottom else []

abbrev pub axis : Line → Scale → ℕ → ℕ → List SeenFigure
axis of scale top bottom =
    units scale bottom ++ each_below (more scale.window.last 1) (round_tick of scale top bottom)
    ++ left_cut scale bottom ++ right_cut of scale bottom
