use Rattle.std.proofs.Common.{◌≡◌, ◌<◌}
use Rattle.std.specs.Prelude.{IfSome}
use Rattle.file_study.specs.times.Names.{first_failing, is_known, name_of}
use Rattle.file_study.proofs.times.names.unknown.Given as goal

abbrev pub invariant-loop-k : goal.invariant-loop-k
invariant-loop-k l =
    (l.found ≡ first_failing (λ k. is_known l.line (name_of l.names k)) l.k)
    × IfSome l.found (λ k. k < l.k)
