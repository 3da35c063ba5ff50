use Rattle.std.proofs.Common.{◌+◌, ◌*◌}
use Rattle.cert_split.proofs.text.read_tree.+tree.Given as goal

abbrev pub decreases-read_half : goal.decreases-read_half
decreases-read_half l = 2 * l.depth + 1

abbrev pub decreases-read_below : goal.decreases-read_below
decreases-read_below l = 2 * l.depth
