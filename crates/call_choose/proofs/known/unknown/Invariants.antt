use Rattle.std.proofs.Common.{◌≡◌, ◌<◌}
use Rattle.std.specs.Prelude.{IfSome, length, nat_lt}
use Rattle.file_study.specs.times.Names.{first_failing, name_of, params_of}
use Rattle.call_choose.proofs.known.unknown.Given as goal

abbrev pub invariant-loop-k : goal.invariant-loop-k
invariant-loop-k l =
    (l.found ≡ first_failing (λ k. nat_lt 0 (length (params_of l.line (name_of l.names k)))) l.k)
    × IfSome l.found (λ k. k < l.k)
