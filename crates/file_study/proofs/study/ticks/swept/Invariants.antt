use Rattle.std.proofs.Common.{◌≡◌, ◌-◌, []}
use Rattle.file_study.specs.study.Moments.{all_limited, values_from}
use Rattle.file_study.proofs.study.ticks.swept.Given as goal

abbrev pub invariant-loop-i : goal.invariant-loop-i
invariant-loop-i l =
    all_limited l.upward l.tick_us l.path (values_from l.sweep l.i (1000 - l.i)) l.values.items
    ≡ all_limited l.upward l.tick_us l.path (values_from l.sweep 0 1000) []
