-- How each terminal's obligation stands after so many candidates.
use Rattle.std.specs.Prelude.{◌<◌, ℕ, List}
use Rattle.model_line.specs.{declared.line.Line.Line, declared.script.Script.Script}
use Rattle.model_line.specs.Parameters.{terminal_count}
use Rattle.model_logic.specs.Histories.{PairHistory}
use Rattle.model_timing.specs.Candidates.{candidate, candidate_count}
use Rattle.judge_verdict.specs.verdict.OneEach.{OneEach}
use Rattle.judge_verdict.specs.declared.verdict.verdict.Verdict.{Verdict}
use Rattle.judge_verdict.specs.declared.verdict.verdict.Verdict.TheVariants.{Yes, No, Undecided}
use Rattle.judge_verdict.specs.declared.verdict.standing.Standing.{Standing}
use Rattle.judge_verdict.specs.declared.verdict.standing.Standing.TheVariants.{Held, Failing, Open}
use Rattle.judge_verdict.specs.verdict.Verdicts.{IsRuleHeld, IsFirstFailing, PassesAt}

-- the rule is not held, and this candidate is the first that fails
pub record StandsFailing (line : Line) (script : Script) (k : ℕ) (w : PairHistory) (number : ℕ)
    : Type 0 where
  pub not_held : ¬ (IsRuleHeld line script k w)
  pub first : IsFirstFailing line script k number

-- the rule is not held, and none of the first n candidates fails
pub record StandsOpen (line : Line) (script : Script) (k : ℕ) (w : PairHistory) (n : ℕ)
    : Type 0 where
  pub not_held : ¬ (IsRuleHeld line script k w)
  pub passes : (i : ℕ) → i < n → i < candidate_count line
      → PassesAt line script k (candidate line i)

-- how terminal k stands after the first n candidates
abbrev pub IsStanding : Line → Script → ℕ → PairHistory → ℕ → Standing → Type 0
IsStanding line script k w n Held = IsRuleHeld line script k w
IsStanding line script k w n (Failing number) = StandsFailing line script k w number
IsStanding line script k w n Open = StandsOpen line script k w n

-- one for each terminal
abbrev pub AllStand : Line → Script → PairHistory → ℕ → List Standing → Type 0
AllStand line script w n standings =
    OneEach (λ k s. IsStanding line script k w n s) (terminal_count line) standings

-- the candidate that it names is one of the line's
abbrev pub IsOfLine : Line → Standing → Type 0
IsOfLine line Held = Unit {0}
IsOfLine line (Failing number) = number < candidate_count line
IsOfLine line Open = Unit {0}

-- the verdict that a standing is after all candidates
abbrev pub verdict_as : Line → Standing → Verdict
verdict_as line Held = Yes
verdict_as line (Failing number) = No (candidate line number)
verdict_as line Open = Undecided
