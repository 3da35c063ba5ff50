use Rattle.std.proofs.Common.{map, take}
use Rattle.cert_claims.specs.text.Grammar.{verdict_in}
use Rattle.cert_claims.specs.check.Counts.{Adds}
use Rattle.cert_claims.proofs.check.counts.with_all.Given as goal

abbrev pub invariant-loop-i : goal.invariant-loop-i
invariant-loop-i l = Adds l.fn.counts (map verdict_in (take l.i l.verdicts)) l.sum
