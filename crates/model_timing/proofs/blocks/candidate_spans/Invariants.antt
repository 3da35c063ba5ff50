use Rattle.std.proofs.Common.{◌≡◌}
use Rattle.model_timing.specs.{Blocks.AreBlockSpans, Candidates.free_before}
use Rattle.model_timing.proofs.blocks.candidate_spans.Given as goal

abbrev pub invariant-loop-param : goal.invariant-loop-param
invariant-loop-param l = record {
  before : l.before ≡ free_before l.line l.param;
  spans : AreBlockSpans l.line l.first l.param l.spans.items;
}
