-- What is settled of a record.
use Rattle.std.specs.Prelude.{◌≡◌, ◌<◌, ℕ}
use Rattle.model_line.specs.{declared.line.Line.Line, declared.script.Script.Script}
use Rattle.model_timing.specs.{Timing.TimingValues, Candidates.candidate}
use Rattle.model_timing.specs.{Candidates.candidate_count}
use Rattle.judge_match.specs.declared.matching.seen.Seen.{Seen}
use Rattle.judge_match.specs.declared.matching.seen.Match.TheVariants.{Explained, Impossible, Unsettled}
use Rattle.judge_match.specs.matching.Seen.{Gives}
use Rattle.judge_match.specs.{declared.matching.seen.Match.Match, matching.Clash.AllAllowed, matching.Clash.IsFirstClash}

-- none of the first n candidates gives the record
pub record NoneGives (line : Line) (script : Script) (seen : Seen) (n : ℕ) : Type 0 where
  pub differs : (i : ℕ) → i < n → ¬ (Gives line script (candidate line i) seen)

-- the record is allowed, and the timing is the first candidate that gives it
pub record IsExplained (line : Line) (script : Script) (seen : Seen) (timing : TimingValues)
    : Type 0 where
  pub allowed : AllAllowed line script seen
  pub number : ℕ
  pub exists : number < candidate_count line
  pub is : timing ≡ candidate line number
  pub gives : Gives line script (candidate line number) seen
  pub first : NoneGives line script seen number

-- the record is allowed, and no candidate gives it
pub record IsUnsettled (line : Line) (script : Script) (seen : Seen) : Type 0 where
  pub allowed : AllAllowed line script seen
  pub none : NoneGives line script seen (candidate_count line)

abbrev pub IsMatch : Line → Script → Seen → Match → Type 0
IsMatch line script seen (Explained timing) = IsExplained line script seen timing
IsMatch line script seen (Impossible k trip t level derived) =
    IsFirstClash line script seen k trip t level derived
IsMatch line script seen Unsettled = IsUnsettled line script seen
