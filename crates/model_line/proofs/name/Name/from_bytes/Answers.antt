use Rattle.std.proofs.Common.{arith}
use Rattle.model_line.proofs.NamePadding.{padded-copy}
use Rattle.model_line.proofs.name.Name.from_bytes.Goals as goal

pub invariant_of-result : goal.invariant_of-result
invariant_of-result c = (
  grind (arith, c.is_empty.ensures, c.if-is_empty.false),
  padded-copy 64 c.args.bytes.now c.copy_from_slice.new.self c.copy_from_slice.ensures.after
      (omega arith),
)
