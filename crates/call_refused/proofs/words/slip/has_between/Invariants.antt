use Rattle.std.proofs.Common.{◌≡◌}
use Rattle.model_history.specs.Elements.{some_below}
use Rattle.call_refused.specs.words.Slips.{is_between}
use Rattle.call_refused.proofs.words.slip.has_between.Given as goal

abbrev pub invariant-loop-k : goal.invariant-loop-k
invariant-loop-k l = l.found ≡ some_below (is_between l.byte l.line) l.k
