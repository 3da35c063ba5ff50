use Rattle.std.proofs.Common.{◌≡◌, take}
use Rattle.std.specs.List.{count_by}
use Rattle.call_verdicts.specs.Verdicts.{fails_for_every}
use Rattle.call_verdicts.proofs.verdict.every_count.Given as goal

abbrev pub invariant-loop-one : goal.invariant-loop-one
invariant-loop-one l = l.count ≡ count_by (λ v. fails_for_every v.standing) (take l.one-index l.verdicts)
