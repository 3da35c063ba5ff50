-- Laws of timings that proofs above cite, each under the name of the function that ensures it.
use Rattle.std.specs.Prelude.{◌<◌, ℕ}
use Rattle.model_line.specs.declared.line.Line.{Line}
use Rattle.model_logic.specs.Choice.{IsInside}
use Rattle.model_timing.specs.Candidates.{candidate, candidate_count}
use Rattle.model_timing.specs.{Choice.timing_choice, Inside.IsTimingInside, Timing.TimingValues}

-- each candidate is inside the declared intervals
abbrev pub CandidatesAreInside : Type 0
CandidatesAreInside =
    (line : Line) (index : ℕ) → index < candidate_count line
    → IsTimingInside line (candidate line index)

-- the choice of delays that a timing inside stands for lies in the declared intervals, at every tick
abbrev pub TimingsInsideAreChoicesInside : Type 0
TimingsInsideAreChoicesInside =
    (line : Line) (timing : TimingValues) → IsTimingInside line timing
    → IsInside line (timing_choice line timing)
