use Rattle.std.proofs.Common.{length, ap, arith}
use Rattle.model_timing.proofs.candidates.candidate_count.Goals as goal

pub free_count-requires : goal.free_count-requires
free_count-requires c =
    let few = c.parameters_are_numbered.ensures.few c.args.line.now in omega (arith, few, ap length c.as_slice.ensures.value)
