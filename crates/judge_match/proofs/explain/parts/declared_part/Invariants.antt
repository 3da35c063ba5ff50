use Rattle.std.proofs.Common.{◌≡◌, map}
use Rattle.std.specs.List.{range_with_len}
use Rattle.model_line.specs.Parameters.{declared_ends}
use Rattle.judge_match.proofs.explain.parts.declared_part.Given as goal

abbrev pub invariant-loop-param : goal.invariant-loop-param
invariant-loop-param l = l.part.items ≡ map (declared_ends l.line) (range_with_len 0 l.param)
