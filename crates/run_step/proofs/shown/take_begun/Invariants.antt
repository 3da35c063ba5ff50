use Rattle.std.proofs.Common.{◌≡◌, ◌≤◌, ◌-◌, ◌++◌, length, drop}
use Rattle.std.specs.Prelude.{vec_capacity}
use Rattle.run_step.proofs.shown.take_begun.Given as goal

abbrev pub invariant-loop-taken : goal.invariant-loop-taken
invariant-loop-taken l = record {
  inside : l.taken ≤ length l.ordered;
  few : length l.present.items ≤ l.taken;
  room : length l.ordered ≤ vec_capacity l.present;
  same : l.present.items ++ drop l.taken l.ordered
      ≡ l.initial.present.items ++ drop l.begun l.ordered;
}

abbrev pub decreases-loop-taken : goal.decreases-loop-taken
decreases-loop-taken l = length l.ordered - l.taken
