use Rattle.std.proofs.Common.{◌≡◌, ◌++◌, drop}
use Rattle.call_choose.specs.Left.{left_from, left_of}
use Rattle.call_choose.proofs.left.left_in.Given as goal

abbrev pub invariant-loop-place : goal.invariant-loop-place
invariant-loop-place l = l.left.items ++ left_from l.place (drop l.place l.kept) ≡ left_of l.kept
