-- What is told of the numbers and the steps of a choice.
use Rattle.std.specs.Prelude.{◌≡◌, ◌&&◌, ◌==◌, ℕ, Bool, not}
use Rattle.model_line.specs.declared.line.Line.{Line}
use Rattle.model_line.specs.Parameters.{declared_ends, declared_middle}
use Rattle.model_line.specs.NamesByNumber.{parameter_name}
use Rattle.model_timing.specs.{Timing.TimingValues, declared.step.Step.Step}
use Rattle.judge_settle.specs.corner.Cuts.{least_of, number}
use Rattle.draw_page.specs.declared.page.{ToldTime.ToldTime, ToldStep.ToldStep}

-- a number that is neither the middle of its interval nor its least; one that is its least alone
abbrev pub is_told : Line → TimingValues → ℕ → Bool
is_told line timing i =
    not (number timing i == declared_middle line i) && not (number timing i == least_of line i)

abbrev pub is_at_least : Line → TimingValues → ℕ → Bool
is_at_least line timing i =
    not (number timing i == declared_middle line i) && (number timing i == least_of line i)

pub record IsToldTime (line : Line) (timing : TimingValues) (i : ℕ) (told : ToldTime) : Type 0 where
  pub name : told.name.items ≡ parameter_name line i
  pub number_is : told.number ≡ number timing i
  pub low : told.low ≡ (declared_ends line i).least
  pub high : told.high ≡ (declared_ends line i).greatest

pub record IsToldStep (line : Line) (step : Step ℕ) (told : ToldStep) : Type 0 where
  pub name : told.name.items ≡ parameter_name line step.param
  pub from : told.from ≡ step.from
  pub number_is : told.number ≡ step.value
