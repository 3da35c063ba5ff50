use Rattle.std.proofs.Common.{◌≡◌, ◌<◌, ◌≤◌, ◌+◌, ℕ}
use Rattle.call_page.specs.Verdicts.{distance_at}
use Rattle.call_page.proofs.worst.worst.Given as goal

abbrev pub invariant-loop-j : goal.invariant-loop-j
invariant-loop-j l = record {
  among : l.worst < l.part.count;
  some : l.worst < l.j;
  is : l.least ≡ distance_at l.known.study.now.line l.known.study.now.scripts.items
      l.known.rows.now l.known.firsts.now (l.part.start + l.worst) l.terminal;
  none_less : (i : ℕ) → i < l.j → l.least ≤ distance_at l.known.study.now.line
      l.known.study.now.scripts.items l.known.rows.now l.known.firsts.now (l.part.start + i)
      l.terminal;
}
