use Rattle.std.proofs.Common.{◌≡◌, ◌++◌}
use Rattle.model_history.specs.Each.{each_below}
use Rattle.draw_shapes.specs.Seen.{figures_seen}
use Rattle.draw_run.specs.layout.Axis.{round_tick}
use Rattle.draw_run.proofs.layout.axis.put_ticks.Given as goal

abbrev pub invariant-loop-t : goal.invariant-loop-t
invariant-loop-t l =
    figures_seen l.figures.items
    ≡ figures_seen l.initial.figures.items
    ++ each_below l.t (round_tick l.of l.scale l.top l.bottom)
