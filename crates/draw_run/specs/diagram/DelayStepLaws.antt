-- What a mark says.
use Rattle.std.specs.Prelude.{◌≡◌, ◌<◌, ◌↔◌, ℕ, List}
use Rattle.std.specs.List.{Contains}
use Rattle.model_line.specs.declared.line.Line.{Line}
use Rattle.model_line.specs.Parameters.{channel_count, delay_param}
use Rattle.model_timing.specs.declared.step.Step.{Step}
use Rattle.model_plain.specs.declared.role.Role.TheVariants.{Received}
use Rattle.draw_run.specs.diagram.DelaySteps.{marks_of}
use Rattle.draw_run.specs.declared.diagram.trace.Trace.TheVariants.{Logic}

-- some of these steps is one of this parameter, and begins at tick t
abbrev pub SomeBegins : List (Step ℕ) → ℕ → ℕ → Type 0
SomeBegins steps param t =
    (s : Step ℕ) × Contains steps s × (s.param ≡ param) × (s.from ≡ t)

-- the row of what is received over a channel has a mark at a tick exactly where the tick is one of
-- the run and a step of that channel's delay begins there
abbrev pub MarksAreSteps : Type 0
MarksAreSteps = (line : Line) (steps : List (Step ℕ)) (c gate t : ℕ) → c < channel_count line
    → Contains (marks_of line steps (Logic (Received c) gate)) t
    ↔ ((t < line.horizon) × SomeBegins steps (delay_param line c) t)
