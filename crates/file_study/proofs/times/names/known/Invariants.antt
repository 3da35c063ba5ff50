use Rattle.std.proofs.Common.{◌≡◌}
use Rattle.model_history.specs.Elements.{some_below}
use Rattle.model_line.specs.NamesByNumber.{parameter_name}
use Rattle.file_study.specs.times.Names.{stands_for}
use Rattle.file_study.proofs.times.names.known.Given as goal

abbrev pub invariant-loop-i : goal.invariant-loop-i
invariant-loop-i l = l.found ≡ some_below (λ i. stands_for l.name (parameter_name l.line i)) l.i
