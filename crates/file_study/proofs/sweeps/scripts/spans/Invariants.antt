use Rattle.std.proofs.Common.{◌≡◌, ◌+◌, [], drop, map, sum}
use Rattle.file_study.specs.study.Faults.{stage_values}
use Rattle.file_study.specs.sweeps.Spans.{spans_of}
use Rattle.file_study.proofs.sweeps.scripts.spans.Given as goal

abbrev pub invariant-loop-i : goal.invariant-loop-i
invariant-loop-i l = record {
  seen : spans_of l.begin (drop l.i l.lasts) (map stage_values (drop l.i l.stages)) l.spans.items
      ≡ spans_of l.start l.lasts (map stage_values l.stages) [];
  ends : l.begin + sum (drop l.i l.lasts) ≡ l.start + sum l.lasts;
}
