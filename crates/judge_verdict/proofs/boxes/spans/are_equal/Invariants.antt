use Rattle.std.proofs.Common.{◌≡◌, ℕ, ◌<◌}
use Rattle.std.specs.Prelude.{slice_index}
use Rattle.judge_verdict.proofs.boxes.spans.are_equal.Given as goal

abbrev pub invariant-loop-lane : goal.invariant-loop-lane
invariant-loop-lane l =
    (k : ℕ) → k < l.lane → slice_index l.numbers k ≡ slice_index l.numbers 0
