-- A failing timing cut to what matters.
use Rattle.std.specs.Prelude.{◌≡◌, ◌≢◌, ◌≤◌, ◌<◌, ◌⊎◌, ℕ, length, get_or, slice_set}
use Rattle.std.specs.List.{All, Contains, remove}
use Rattle.model_line.specs.{declared.line.Line.Line, declared.script.Script.Script}
use Rattle.model_line.specs.Parameters.{declared_ends, param_count, declared_middle}
use Rattle.model_timing.specs.Timing.{TimingValues}
use Rattle.judge_settle.specs.corner.Failing.{FailsInside, PassesAt}

-- ---- timings

-- the number of a parameter
abbrev pub number : TimingValues → ℕ → ℕ
number timing i = get_or timing.values i 0

abbrev pub least_of : Line → ℕ → ℕ
least_of line i = (declared_ends line i).least

-- the timing with another number of parameter i; without step j
abbrev pub with_number : TimingValues → ℕ → ℕ → TimingValues
with_number timing i n = record { values = slice_set timing.values i n; steps = timing.steps }

abbrev pub without_step : TimingValues → ℕ → TimingValues
without_step timing j = record { values = timing.values; steps = remove timing.steps j }

-- ---- what matters

-- with parameter i at the middle of its interval the obligation is met, and so it is with it at its
-- least, if it stands neither here nor there
pub record NumberMatters (line : Line) (script : Script) (k : ℕ) (timing : TimingValues) (i : ℕ)
    : Type 0 where
  pub at_nominal : number timing i ≢ declared_middle line i
      → PassesAt line script k (with_number timing i (declared_middle line i))
  pub at_least : number timing i ≢ declared_middle line i
      → number timing i ≢ least_of line i
      → PassesAt line script k (with_number timing i (least_of line i))

-- so it is with each of the first n parameters
abbrev pub NumbersMatter : Line → Script → ℕ → TimingValues → ℕ → Type 0
NumbersMatter line script k timing n = (i : ℕ) → i < n → NumberMatters line script k timing i

-- without any one step, of those from this one on, the obligation is met
abbrev pub StepsMatter : Line → Script → ℕ → TimingValues → ℕ → Type 0
StepsMatter line script k timing from = (j : ℕ) → from ≤ j → j < length timing.steps
    → PassesAt line script k (without_step timing j)

pub record EachMatters (line : Line) (script : Script) (k : ℕ) (timing : TimingValues)
    : Type 0 where
  pub numbers : NumbersMatter line script k timing (param_count line)
  pub steps : StepsMatter line script k timing 0

-- ---- the cut

-- each number is that of the whole timing, or the middle of its interval, or its least; each step is
-- one of its steps
pub record IsLeftOf (line : Line) (whole cut : TimingValues) : Type 0 where
  pub numbers : (i : ℕ) → i < param_count line
      → (number cut i ≡ number whole i)
      ⊎ ((number cut i ≡ declared_middle line i) ⊎ (number cut i ≡ least_of line i))
  pub steps : All (Contains whole.steps) cut.steps

-- the cut timing still fails, is what is left of the whole one, and nothing in it can be left out
pub record IsCut (line : Line) (script : Script) (k : ℕ) (whole cut : TimingValues) : Type 0 where
  pub fails : FailsInside line script k cut
  pub left : IsLeftOf line whole cut
  pub matters : EachMatters line script k cut
