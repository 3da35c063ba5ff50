use Rattle.std.proofs.Common.{◌≡◌, map, take}
use Rattle.judge_settle.specs.settle.Answers.{is_failing}
use Rattle.judge_times.proofs.exact.failing.Given as goal

abbrev pub invariant-loop-one : goal.invariant-loop-one
invariant-loop-one l = l.fails.items ≡ map (λ one. is_failing one.answer) (take l.one-index l.settled)
