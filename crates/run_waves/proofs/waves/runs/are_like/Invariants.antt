use Rattle.std.proofs.Common.{◌≡◌, take}
use Rattle.run_waves.proofs.waves.runs.are_like.Given as goal

abbrev pub invariant-loop-i : goal.invariant-loop-i
invariant-loop-i l = take l.i l.some ≡ take l.i l.others
