-- Which candidates of a block give a record, and the first that gives it.
use Rattle.std.specs.Prelude.{◌<◌, ◌↔◌, ℕ, IsTrue}
use Rattle.run_signal.specs.Bits.{bit_on}
use Rattle.model_line.specs.{declared.line.Line.Line, declared.script.Script.Script}
use Rattle.model_timing.specs.{Blocks.candidate_in, Candidates.candidate}
use Rattle.model_timing.specs.{Candidates.candidate_count}
use Rattle.judge_match.specs.{declared.matching.seen.Seen.Seen, matching.Seen.Gives, matching.Match.NoneGives}

-- the bit of each lane tells whether the lane's candidate gives the record
abbrev pub TellGiving : Line → Script → Seen → ℕ → ℕ → Type 0
TellGiving line script seen first bits = (lane : ℕ) → lane < 64
    → (IsTrue (bit_on bits lane) ↔ Gives line script (candidate line (candidate_in line first lane)) seen)

-- the candidate of this number gives the record, and none before it does
pub record IsFirstGiving (line : Line) (script : Script) (seen : Seen) (n : ℕ) : Type 0 where
  pub exists : n < candidate_count line
  pub gives : Gives line script (candidate line n) seen
  pub first : NoneGives line script seen n
