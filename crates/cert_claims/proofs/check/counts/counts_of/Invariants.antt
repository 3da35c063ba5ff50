use Rattle.std.proofs.Common.{◌≤◌, ◌*◌, map, take}
use Rattle.cert_claims.specs.text.Grammar.{claims_in}
use Rattle.cert_claims.specs.check.Counts.{AreCounts, all_verdicts}
use Rattle.cert_claims.proofs.check.counts.counts_of.Given as goal

abbrev pub invariant-loop-i : goal.invariant-loop-i
invariant-loop-i l = record {
  counts : AreCounts (all_verdicts (map claims_in (take l.i l.claims))) l.sum;
  yes : l.sum.yes ≤ 3 * l.i;
  no : l.sum.no ≤ 3 * l.i;
  undecided : l.sum.undecided ≤ 3 * l.i;
}
