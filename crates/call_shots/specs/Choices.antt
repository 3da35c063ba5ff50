-- Which choice of times a shot is played at.
use Rattle.std.specs.Prelude.{◌≡◌, ℕ, List, Some, length, slice_get}
use Rattle.model_line.specs.{declared.line.Line.Line, declared.script.Script.Script}
use Rattle.model_timing.specs.Timing.{TimingValues}
use Rattle.judge_verdict.specs.verdict.OneEach.{OneEach}
use Rattle.judge_settle.specs.corner.{Cuts.IsCut, Decided.IsTheWorst}
use Rattle.call_verdicts.specs.declared.finding.{Finding.Finding, Standing.Standing}
use Rattle.call_verdicts.specs.declared.finding.Standing.TheVariants.{Held, Fails, Open}

-- a timing that fails the obligation, cut to what matters
pub record IsFailingCut (line : Line) (script : Script) (k : ℕ) (timing : TimingValues) : Type 0 where
  pub whole : TimingValues
  pub cut : IsCut line script k whole timing

-- where the obligation fails such a timing; else the worst corner of the declared intervals
abbrev pub IsPlayedAt : Line → Script → ℕ → Standing → TimingValues → Type 0
IsPlayedAt line script k Held timing = IsTheWorst line script timing
IsPlayedAt line script k (Fails every) timing = IsFailingCut line script k timing
IsPlayedAt line script k Open timing = IsTheWorst line script timing

-- so it is of the script of a finding, at its terminal
pub record IsChoiceOf (line : Line) (scripts : List Script) (shot : Finding) (timing : TimingValues)
    : Type 0 where
  pub script : Script
  pub at : slice_get scripts shot.script ≡ Some script
  pub is : IsPlayedAt line script shot.terminal shot.standing timing

-- and of shot i
pub record IsChoice (line : Line) (scripts : List Script) (shots : List Finding) (i : ℕ)
    (timing : TimingValues) : Type 0 where
  pub shot : Finding
  pub at : slice_get shots i ≡ Some shot
  pub is : IsChoiceOf line scripts shot timing

-- one for each shot
abbrev pub AreChoices : Line → List Script → List Finding → List TimingValues → Type 0
AreChoices line scripts shots timings =
    OneEach (IsChoice line scripts shots) (length shots) timings
