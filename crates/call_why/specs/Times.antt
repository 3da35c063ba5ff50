-- The times of a choice that matter.
use Rattle.std.specs.Prelude.{◌++◌, ◌==◌, ℕ, List, [], ◌∷◌, codes, if◌then◌else◌}
use Rattle.base_text.specs.lines.Milliseconds.{ticks_text}
use Rattle.model_history.specs.Each.{each_below}
use Rattle.model_line.specs.declared.line.Line.{Line}
use Rattle.model_line.specs.Parameters.{declared_middle, param_count}
use Rattle.model_line.specs.NamesByNumber.{parameter_name}
use Rattle.model_timing.specs.{Timing.TimingValues, declared.step.Step.Step}
use Rattle.judge_settle.specs.corner.Cuts.{number}

abbrev pub time_words : Line → ℕ → ℕ → List ℕ
time_words line param value =
    codes ", " ++ parameter_name line param
    ++ (codes " at " ++ ticks_text line.tick_us value ++ codes " ms")

-- a number that is not the middle of its interval
unfoldable pub number_words : Line → TimingValues → ℕ → List ℕ
number_words line timing i =
    if number timing i == declared_middle line i then [] else time_words line i (number timing i)

-- a delay that has another number from a tick on
abbrev pub step_words : Line → Step ℕ → List ℕ
step_words line step =
    time_words line step.param step.value
    ++ (codes " from " ++ ticks_text line.tick_us step.from ++ codes " ms on")

abbrev pub steps_words : Line → List (Step ℕ) → List ℕ
steps_words line [] = []
steps_words line (step ∷ more) = step_words line step ++ steps_words line more

-- the line of a choice
unfoldable pub choice_line : Line → TimingValues → List ℕ
choice_line line timing =
    codes "times in the middle of their intervals"
    ++ each_below (param_count line) (number_words line timing)
    ++ steps_words line timing.steps ++ codes "\n"
