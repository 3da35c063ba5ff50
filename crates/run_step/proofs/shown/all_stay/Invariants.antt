use Rattle.std.proofs.Common.{◌≤◌}
use Rattle.run_step.specs.Quiet.{SpanKeeps}
use Rattle.run_step.specs.LoopLaws.{FirstHave}
use Rattle.run_step.proofs.shown.all_stay.Given as goal

abbrev pub invariant-loop-span : goal.invariant-loop-span
invariant-loop-span l = record {
  some : 1 ≤ l.stays;
  limited : l.stays ≤ 4000;
  keep : FirstHave (SpanKeeps l.t l.stays) l.spans l.span-index;
}
