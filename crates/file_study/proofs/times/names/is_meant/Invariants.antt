use Rattle.std.proofs.Common.{◌≡◌}
use Rattle.model_history.specs.Elements.{some_below}
use Rattle.file_study.specs.times.Names.{name_of, stands_for}
use Rattle.file_study.proofs.times.names.is_meant.Given as goal

abbrev pub invariant-loop-k : goal.invariant-loop-k
invariant-loop-k l = l.found ≡ some_below (λ k. stands_for (name_of l.names k) l.param) l.k
