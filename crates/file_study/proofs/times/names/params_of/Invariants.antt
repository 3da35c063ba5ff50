use Rattle.std.proofs.Common.{◌≡◌, ◌<◌}
use Rattle.std.specs.List.{All}
use Rattle.model_line.specs.Parameters.{param_count}
use Rattle.file_study.specs.times.Names.{is_meant, those_below}
use Rattle.file_study.proofs.times.names.params_of.Given as goal

abbrev pub invariant-loop-i : goal.invariant-loop-i
invariant-loop-i l =
    (l.params.items ≡ those_below (is_meant l.line l.names) l.i)
    × All (λ param. param < param_count l.line) l.params.items
