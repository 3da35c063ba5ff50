use Rattle.std.proofs.Common.{◌≡◌, take}
use Rattle.call_verdicts.specs.Faults.{verdicts_at}
use Rattle.call_verdicts.proofs.verdict.verdicts_of.Given as goal

abbrev pub invariant-loop-one : goal.invariant-loop-one
invariant-loop-one l =
    l.verdicts.items ≡ verdicts_at l.scripts l.terminal (take l.one-index l.found)
