use Rattle.std.proofs.Common.{◌≡◌, map}
use Rattle.std.specs.List.{range_with_len}
use Rattle.model_timing.specs.Candidates.{candidate_value}
use Rattle.model_timing.proofs.candidates.candidate.Given as goal

abbrev pub invariant-loop-param : goal.invariant-loop-param
invariant-loop-param l =
    l.values.items ≡ map (candidate_value l.line l.index) (range_with_len 0 l.param)
