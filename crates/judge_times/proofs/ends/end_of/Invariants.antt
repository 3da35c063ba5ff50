use Rattle.std.proofs.Common.{◌≡◌, take}
use Rattle.judge_times.specs.Ends.{end_of}
use Rattle.judge_times.proofs.ends.end_of.Given as goal

abbrev pub invariant-loop-own : goal.invariant-loop-own
invariant-loop-own l = l.new.items ≡ end_of l.late (take l.own-index l.part)
