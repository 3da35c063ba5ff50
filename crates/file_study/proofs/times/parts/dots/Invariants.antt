use Rattle.std.proofs.Common.{◌≡◌, ◌+◌, drop}
use Rattle.file_study.specs.times.Parts.{dots_in}
use Rattle.file_study.proofs.times.parts.dots.Given as goal

abbrev pub invariant-loop-i : goal.invariant-loop-i
invariant-loop-i l = dots_in l.text ≡ l.i + dots_in (drop l.i l.text)
