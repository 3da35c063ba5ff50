use Rattle.std.proofs.Common.{◌<◌, length, IfSome}
use Rattle.judge_times.proofs.search.widest.Given as goal

abbrev pub invariant-loop-i : goal.invariant-loop-i
invariant-loop-i l = IfSome l.found (λ place. place < length l.part)
