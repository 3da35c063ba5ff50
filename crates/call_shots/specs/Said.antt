-- What the command answers.
use Rattle.std.specs.Prelude.{◌≡◌, ℕ, List}
use Rattle.std.specs.List.{list_any}
use Rattle.model_line.specs.{declared.line.Line.Line, declared.script.Script.Script}
use Rattle.model_timing.specs.Timing.{TimingValues}
use Rattle.file_study.specs.declared.sweeps.group.Group.{Group}
use Rattle.call_ask.specs.declared.shots.ShotsForm.{ShotsForm}
use Rattle.call_ask.specs.declared.shots.ShotsForm.TheVariants.{Delays, Expected, States}
use Rattle.call_answer.specs.{Answers.Answers, Answers.status_by, declared.done.Done.Done}
use Rattle.call_verdicts.specs.{Findings.AreFindings, Verdicts.is_failing, Verdicts.is_open}
use Rattle.call_verdicts.specs.declared.finding.Finding.{Finding}
use Rattle.call_shots.specs.{Choices.AreChoices, Delays.delays_text}
use Rattle.call_shots.specs.{Rows.AreRows, Shots.shots_from, States.states_text, Table.shots_text}
use Rattle.call_shots.specs.declared.rows.Row.{Row}

-- the table of these shots with rows that are so
pub record IsTable (line : Line) (scripts : List Script) (groups : List Group)
    (shots : List Finding) (text : List ℕ) : Type 0 where
  pub rows : List Row
  pub are : AreRows line scripts shots rows
  pub text_is : text ≡ shots_text line scripts groups rows

-- the table of the delays of choices that are so
pub record IsDelays (line : Line) (scripts : List Script) (shots : List Finding) (text : List ℕ)
    : Type 0 where
  pub timings : List TimingValues
  pub are : AreChoices line scripts shots timings
  pub text_is : text ≡ delays_text line scripts shots timings

-- what is told of the shots: what is expected, what is seen, or how the channels' delays are
abbrev pub IsForm : ShotsForm → Line → List Script → List Group → List Finding → List ℕ → Type 0
IsForm Expected line scripts groups shots text = IsTable line scripts groups shots text
IsForm States line scripts groups shots text = text ≡ states_text line scripts shots
IsForm Delays line scripts groups shots text = IsDelays line scripts shots text

-- of findings that are so, one for each obligation, the shots; the status is that of the table of
-- verdicts
pub record AreShots (form : ShotsForm) (line : Line) (scripts : List Script) (groups : List Group)
    (status : Done) (text : List ℕ) : Type 0 where
  pub found : List Finding
  pub are : AreFindings line scripts found
  pub status_is : status ≡ status_by (list_any is_failing found) (list_any is_open found)
  pub told : IsForm form line scripts groups (shots_from line scripts groups found) text

abbrev pub shots_answer : ShotsForm → Line → List Script → List Group → Answers
shots_answer form line scripts groups = AreShots form line scripts groups
