use Rattle.std.proofs.Common.{◌≡◌, ◌++◌, drop, take}
use Rattle.file_study.specs.sweeps.Spans.{joined}
use Rattle.file_study.proofs.sweeps.spans.place.Given as goal

abbrev pub invariant-loop-i : goal.invariant-loop-i
invariant-loop-i l =
    joined l.new l.spans ≡ take l.i l.spans ++ joined l.new (drop l.i l.spans)
