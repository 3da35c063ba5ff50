use Rattle.std.proofs.Common.{◌≡◌, ◌+◌, length}
use Rattle.judge_choose.specs.{Found.AreOfSettings, Told.AreCovers}
use Rattle.judge_choose.proofs.found.found.Given as goal

abbrev pub invariant-loop-i : goal.invariant-loop-i
invariant-loop-i l = record {
  count : l.first + length l.candidates.items ≡ l.i;
  covers : AreCovers l.compiled.line.now l.candidates.items;
  of : AreOfSettings l.settings l.first l.candidates.items;
}
