use Rattle.std.proofs.Common.{◌≡◌}
use Rattle.call_why.specs.Parts.{part_below}
use Rattle.call_why.proofs.parts.part_in.Given as goal

abbrev pub invariant-loop-k : goal.invariant-loop-k
invariant-loop-k l = l.part ≡ part_below l.compiled.line.now l.compiled.net.now l.i l.k
