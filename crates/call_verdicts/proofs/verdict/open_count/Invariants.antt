use Rattle.std.proofs.Common.{◌≡◌, take}
use Rattle.std.specs.List.{count_by}
use Rattle.call_verdicts.specs.Verdicts.{is_left}
use Rattle.call_verdicts.proofs.verdict.open_count.Given as goal

abbrev pub invariant-loop-one : goal.invariant-loop-one
invariant-loop-one l = l.count ≡ count_by (λ v. is_left v.standing) (take l.one-index l.verdicts)
