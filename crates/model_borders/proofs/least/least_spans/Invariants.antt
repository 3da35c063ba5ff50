use Rattle.std.proofs.Common.{◌≡◌, take}
use Rattle.model_borders.specs.Least.{least_spans}
use Rattle.model_borders.proofs.least.least_spans.Given as goal

abbrev pub invariant-loop-i : goal.invariant-loop-i
invariant-loop-i l =
    l.spans.items ≡ least_spans l.script.borders.items l.part (take l.i l.script.spans.items)
