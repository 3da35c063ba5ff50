use Rattle.std.proofs.Common.{take}
use Rattle.cert_claims.specs.check.Counts.{Adds}
use Rattle.cert_split.proofs.check_lemmas.FirstVerdicts.{verdicts_in}
use Rattle.cert_split.proofs.check.counts.with_all.Given as goal

abbrev pub invariant-loop-i : goal.invariant-loop-i
invariant-loop-i l = Adds l.fn.counts (verdicts_in (take l.i l.results)) l.sum
