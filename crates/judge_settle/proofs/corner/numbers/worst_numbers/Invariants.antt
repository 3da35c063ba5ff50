use Rattle.std.proofs.Common.{◌≡◌, map}
use Rattle.std.specs.List.{range_with_len}
use Rattle.judge_settle.specs.corner.Named.{rail_named}
use Rattle.judge_settle.specs.corner.Corner.{worst_number}
use Rattle.judge_settle.proofs.corner.numbers.worst_numbers.Given as goal

abbrev pub invariant-loop-param : goal.invariant-loop-param
invariant-loop-param l =
    l.numbers.items ≡ map (worst_number l.line (rail_named l.rail)) (range_with_len 0 l.param)
