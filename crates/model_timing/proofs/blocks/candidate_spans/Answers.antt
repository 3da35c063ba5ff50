use Rattle.std.proofs.Common.{length, ap, arith}
use Rattle.model_timing.proofs.BlockSpanLaws.{few_before, one_span_more}
use Rattle.model_timing.proofs.blocks.candidate_spans.Goals as goal

pub free_count-free-requires : goal.free_count-free-requires
free_count-free-requires c =
    let few = c.parameters_are_numbered.ensures.few c.args.line.now in
    omega (arith, few, ap length c.as_slice.ensures.value)

pub block_span-requires-clause-fewer : goal.block_span-requires-clause-fewer
block_span-requires-clause-fewer c =
    let is = c.loop-param.invariant.before in
    let few = few_before c.parameters_are_numbered.ensures c.args.line.now c.loop-param.param in
    omega arith

pub loop-param-preserved : goal.loop-param-preserved
loop-param-preserved c = record {
  before = c.free_through-before.ensures;
  spans = one_span_more c.args.line.now c.args.first c.loop-param.param c.loop-param.spans.items
      c.push.new.self.items c.block_span.result c.in_ok-push.ensures.items c.block_span.ensures
      c.loop-param.invariant.spans;
}
