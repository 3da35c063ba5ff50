use Rattle.std.proofs.Common.{◌≡◌, take}
use Rattle.std.specs.List.{count_by}
use Rattle.call_verdicts.specs.Stretches.{is_held}
use Rattle.call_verdicts.proofs.verdict.held_count.Given as goal

abbrev pub invariant-loop-one : goal.invariant-loop-one
invariant-loop-one l = l.count ≡ count_by is_held (take l.one-index l.verdicts)
