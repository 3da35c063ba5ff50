-- What is found of all obligations.
use Rattle.std.specs.Prelude.{◌≡◌, ◌<◌, ◌+◌, ◌*◌, ℕ, List, Some, length, slice_get}
use Rattle.model_line.specs.{declared.line.Line.Line, declared.script.Script.Script}
use Rattle.model_line.specs.Parameters.{terminal_count}
use Rattle.model_settle.specs.Schemes.{IsOneRailedBy}
use Rattle.model_timing.specs.Timing.{TimingValues}
use Rattle.judge_verdict.specs.verdict.OneEach.{OneEach}
use Rattle.judge_report.specs.Firsts.{IsFirstMust}
use Rattle.model_fine.specs.Fine.{EveryFineChoiceMeets}
use Rattle.judge_settle.specs.settle.Answers.{IsAnswered, IsFailingFor, IsUndecided}
use Rattle.judge_settle.specs.declared.settle.answer.Settled.{Settled}
use Rattle.judge_settle.specs.declared.settle.answer.By.{By}
use Rattle.call_verdicts.specs.declared.finding.{Finding.Finding, Standing.Standing}
use Rattle.call_verdicts.specs.declared.finding.Standing.TheVariants.{Held, Fails, Open}

-- open: the interval rules leave the obligation unknown and each candidate meets it; a line whose
-- scheme makes every trip one-railed leaves none open
pub record IsLeftOpen (line : Line) (script : Script) (k : ℕ) : Type 0 where
  pub earned : IsUndecided line script k
  pub mixed : ¬ (IsOneRailedBy line.scheme line)

-- held: every choice of fractions inside meets the obligation; fails: the history of a timing inside
-- does not, and it is told whether each choice fails it
abbrev pub IsStanding : Line → Script → ℕ → Standing → Type 0
IsStanding line script k Held = EveryFineChoiceMeets line script k
IsStanding line script k (Fails every) =
    (timing : TimingValues) × IsFailingFor line script k timing every
IsStanding line script k Open = IsLeftOpen line script k

-- it is answered in this way by an answer that is so
pub record IsSettledBy (line : Line) (script : Script) (k : ℕ) (by : By) : Type 0 where
  pub settled : Settled
  pub is : IsAnswered line script k settled
  pub by_is : by ≡ settled.by

-- finding i in the order of the report, script by script and in each its terminals in line order
pub record IsFinding (line : Line) (scripts : List Script) (i : ℕ) (found : Finding) : Type 0 where
  pub script : Script
  pub at : slice_get scripts found.script ≡ Some script
  pub terminal : found.terminal < terminal_count line
  pub place : i ≡ found.script * terminal_count line + found.terminal
  pub standing : IsStanding line script found.terminal found.standing
  pub by : IsSettledBy line script found.terminal found.by
  pub first : IsFirstMust line script found.terminal found.first_must

-- one for each obligation
abbrev pub AreFindings : Line → List Script → List Finding → Type 0
AreFindings line scripts found =
    OneEach (IsFinding line scripts) (length scripts * terminal_count line) found
