use Rattle.std.proofs.Common.{◌≡◌, ◌≤◌, ◌+◌, ◌-◌, ◌*◌}
use Rattle.std.specs.Prelude.{get_or}
use Rattle.model_history.specs.Rails.{single}
use Rattle.model_borders.specs.Borders.{sum_below, fixed_in, times_in, ends_at}
use Rattle.model_borders.proofs.borders.reach.Given as goal

abbrev pub invariant-loop-i : goal.invariant-loop-i
invariant-loop-i l = record {
  sum : l.sum ≡ fixed_in l.borders l.border
      + sum_below (λ i. (times_in l.borders l.border i - times_in l.borders l.other i)
      * ends_at l.late (get_or l.part i (single 0))) l.i;
  limited : l.sum ≤ 65535 + l.i * 1020000;
}
