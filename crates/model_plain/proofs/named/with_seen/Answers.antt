use Rattle.std.proofs.Common.{refl}
use Rattle.model_plain.specs.Roles.{role_tree}
use Rattle.model_plain.proofs.named.with_seen.Goals as goal

pub returns : goal.returns
unfolding role_tree
returns c line roles all = c.with_named.ensures line roles all refl
