use Rattle.std.proofs.Common.{◌≡◌, ◌^◌}
use Rattle.file_study.proofs.times.number.power.Given as goal

abbrev pub invariant-loop : goal.invariant-loop
invariant-loop l = l.power ≡ 10 ^ l.counter
