use Rattle.std.proofs.Common.{length, ap, arith}
use Rattle.model_timing.proofs.candidates.candidate_value.Goals as goal

pub free_count-free-requires : goal.free_count-free-requires
free_count-free-requires c =
    let few = c.parameters_are_numbered.ensures.few c.args.line.now in omega (arith, few, ap length c.as_slice.ensures.value)
