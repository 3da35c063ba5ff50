use Rattle.std.proofs.Common.{length, ◌-◌}
use Rattle.cert_settle.proofs.tree.+add_leaves.Given as goal

abbrev pub decreases-add_leaves : goal.decreases-add_leaves
decreases-add_leaves l = length l.nodes.now - l.at
