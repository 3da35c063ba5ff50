use Rattle.std.proofs.Common.{◌≤◌, ◌*◌, map, take}
use Rattle.cert_split.specs.text.Reading.{results_in}
use Rattle.cert_split.specs.check.Counts.{CountResults}
use Rattle.cert_split.proofs.check.counts.counts_of.Given as goal

abbrev pub invariant-loop-i : goal.invariant-loop-i
invariant-loop-i l = record {
  counts : CountResults (map results_in (take l.i l.parts)) l.sum;
  yes : l.sum.yes ≤ 3 * l.i;
  no : l.sum.no ≤ 3 * l.i;
  undecided : l.sum.undecided ≤ 3 * l.i;
}
