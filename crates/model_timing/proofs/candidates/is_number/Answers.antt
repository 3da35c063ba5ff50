use Rattle.std.proofs.Common.{length, ap, arith, length-take}
use Rattle.model_timing.proofs.candidates.is_number.Goals as goal

pub free_count-requires : goal.free_count-requires
free_count-requires c =
    let few = c.parameters_are_numbered.ensures.few c.args.line.now in
    omega (arith, few, length-take c.args.param c.deref.result.now, ap length c.deref.ensures.value)
