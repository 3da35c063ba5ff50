use Rattle.std.proofs.Common.{◌+◌, ◌*◌}
use Rattle.cert_settle.proofs.read_tree.+tree.Given as goal

abbrev pub decreases-read_tree : goal.decreases-read_tree
decreases-read_tree l = 3 * l.limits.depth + 2

abbrev pub decreases-read_below : goal.decreases-read_below
decreases-read_below l = 3 * l.limits.depth + 1

abbrev pub decreases-read_two : goal.decreases-read_two
decreases-read_two l = 3 * l.limits.depth + 3
