use Rattle.std.specs.List.{All}
use Rattle.call_lint.specs.warnings.TimeTests.{AreEnds}
use Rattle.call_lint.proofs.lint.exact.ends_in.Given as goal

abbrev pub invariant-loop-param : goal.invariant-loop-param
invariant-loop-param l = All AreEnds l.exact.items
