use Rattle.std.proofs.Common.{ℕ, ◌<◌, ◌≤◌, get_or}
use Rattle.model_line.specs.{Intervals.delay_number_of, Making.least_ends}
use Rattle.model_line.proofs.bounds.delays_from_one.Given as goal

abbrev pub invariant-loop-c : goal.invariant-loop-c
invariant-loop-c l =
    (c : ℕ) → c < l.c →
    1 ≤ get_or (least_ends l.bounds) (delay_number_of l.scheme l.terminals l.channels c) 0
