use Rattle.std.proofs.Common.{◌≡◌}
use Rattle.model_history.specs.Elements.{some_below}
use Rattle.call_inspect.specs.Kinds.{is_line_front}
use Rattle.call_inspect.proofs.head.has_line.Given as goal

abbrev pub invariant-loop-k : goal.invariant-loop-k
invariant-loop-k l = l.found ≡ some_below (is_line_front l.front l.text) l.k
