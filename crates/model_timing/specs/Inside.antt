-- The timings inside the declared intervals of a line.
use Rattle.std.specs.Prelude.{◌≡◌, ◌≤◌, ◌<◌, ℕ, length, get_or, IsTrue}
use Rattle.std.specs.List.{All}
use Rattle.model_line.specs.Parameters.{param_count, is_delay, declared_ends}
use Rattle.model_line.specs.declared.line.Line.{Line}
use Rattle.model_logic.specs.Choice.{IsIn}
use Rattle.model_timing.specs.{declared.step.Step.Step, Timing.TimingValues}

-- a step of a delay, within the run, with a number of its interval
pub record IsStepInside (line : Line) (step : Step ℕ) : Type 0 where
  pub delay : IsTrue (is_delay line step.param)
  pub late : 1 ≤ step.from
  pub early : step.from < line.horizon
  pub value : IsIn step.value (declared_ends line step.param)

-- one number for each parameter, each number and each step inside
pub record IsTimingInside (line : Line) (timing : TimingValues) : Type 0 where
  pub count : length timing.values ≡ param_count line
  pub values : (i : ℕ) → i < param_count line
      → IsIn (get_or timing.values i 0) (declared_ends line i)
  pub steps : All (IsStepInside line) timing.steps
