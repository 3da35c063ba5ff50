-- Candidates in blocks of 64, one in each lane.
use Rattle.std.specs.Prelude.{◌≡◌, ◌+◌, ◌-◌, ◌<◌, ℕ, List, [], length, get_or, slice_index}
use Rattle.std.specs.Prelude.{nat_lt, if◌then◌else◌}
use Rattle.model_line.specs.declared.line.Line.{Line}
use Rattle.model_timing.specs.Candidates.{candidate_count, candidate_value}

-- the number of the candidate in a lane of the block that begins with candidate `first`; the lanes
-- past the last candidate repeat it
abbrev pub candidate_in : Line → ℕ → ℕ → ℕ
candidate_in line first lane =
    if nat_lt (first + lane) (candidate_count line) then first + lane else candidate_count line - 1

-- in each lane the span is the parameter's number in the lane's candidate
abbrev pub IsBlockSpan : Line → ℕ → ℕ → List ℕ → Type 0
IsBlockSpan line first param span = (lane : ℕ) → lane < 64
    → slice_index span lane ≡ candidate_value line (candidate_in line first lane) param

-- a span for each of the first n parameters
pub record AreBlockSpans (line : Line) (first n : ℕ) (spans : List (List ℕ)) : Type 0 where
  pub count : length spans ≡ n
  pub each : (param : ℕ) → param < n → IsBlockSpan line first param (get_or spans param [])
