use Rattle.std.proofs.Common.{◌≡◌, drop, max}
use Rattle.file_study.specs.sweeps.Refusals.{greatest}
use Rattle.file_study.proofs.sweeps.needed.greatest.Given as goal

abbrev pub invariant-loop-value : goal.invariant-loop-value
invariant-loop-value l = max l.most (greatest (drop l.value-index l.time)) ≡ greatest l.time
