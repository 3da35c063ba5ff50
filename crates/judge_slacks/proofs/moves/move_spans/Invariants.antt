use Rattle.std.proofs.Common.{◌≡◌, ℕ, Some, length}
use Rattle.std.specs.Prelude.{slice_get}
use Rattle.judge_verdict.specs.boxes.Spans.{SpanLists}
use Rattle.judge_slacks.specs.Asked.{IsMoveSpan}
use Rattle.judge_slacks.proofs.moves.move_spans.Given as goal

abbrev pub invariant-loop-param : goal.invariant-loop-param
invariant-loop-param l = record {
  count : length l.spans.items ≡ l.param;
  each : (param : ℕ) (span : SpanLists) → slice_get l.spans.items param ≡ Some span
      → IsMoveSpan l.of l.gap param span;
}
