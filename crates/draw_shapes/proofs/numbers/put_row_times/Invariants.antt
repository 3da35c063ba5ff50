use Rattle.std.proofs.Common.{◌≡◌, ◌++◌}
use Rattle.model_history.specs.Each.{each_below}
use Rattle.draw_shapes.specs.Seen.{figures_seen}
use Rattle.draw_shapes.specs.Numbers.{row_time}
use Rattle.draw_shapes.proofs.numbers.put_row_times.Given as goal

abbrev pub invariant-loop-n : goal.invariant-loop-n
invariant-loop-n l =
    figures_seen l.figures.items
    ≡ figures_seen l.initial.figures.items
    ++ each_below l.n (row_time l.scale l.ruler l.round)
