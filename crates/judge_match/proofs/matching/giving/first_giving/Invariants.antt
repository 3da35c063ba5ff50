use Rattle.std.proofs.Common.{ℕ, ◌<◌, ◌-◌}
use Rattle.model_timing.specs.Candidates.{candidate, candidate_count}
use Rattle.judge_match.specs.matching.Seen.{Gives}
use Rattle.judge_match.proofs.matching.giving.first_giving.Given as goal

-- no candidate of the blocks so far
abbrev pub invariant-next_block : goal.invariant-next_block
invariant-next_block l =
    (i : ℕ) → i < l.first → i < candidate_count l.compiled.line.now
    → Gives l.compiled.line.now l.script (candidate l.compiled.line.now i) l.seen → ⊥

abbrev pub decreases-next_block : goal.decreases-next_block
decreases-next_block l = l.count - l.first
