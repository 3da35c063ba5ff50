use Rattle.std.proofs.Common.{◌≡◌, map, take}
use Rattle.judge_verdict.specs.verdict.Spans.{declared_span}
use Rattle.judge_verdict.proofs.verdict.spans.declared_spans.Given as goal

abbrev pub invariant-loop-param : goal.invariant-loop-param
invariant-loop-param l =
    l.spans.items ≡ map declared_span (take l.param-index l.line.params.items)
