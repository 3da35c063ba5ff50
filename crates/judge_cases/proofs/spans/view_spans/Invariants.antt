use Rattle.std.proofs.Common.{◌≡◌, ℕ, Some, length}
use Rattle.std.specs.Prelude.{slice_get}
use Rattle.judge_verdict.specs.boxes.Spans.{SpanLists}
use Rattle.judge_cases.specs.Spans.{IsViewSpan}
use Rattle.judge_cases.proofs.spans.view_spans.Given as goal

abbrev pub invariant-loop-param : goal.invariant-loop-param
invariant-loop-param l = record {
  count : length l.spans.items ≡ l.param;
  each : (param : ℕ) (span : SpanLists) → slice_get l.spans.items param ≡ Some span
      → IsViewSpan l.views param span;
}
