use Rattle.std.proofs.Common.{◌≡◌, ◌++◌, take}
use Rattle.draw_shapes.specs.Seen.{figures_seen}
use Rattle.draw_run.specs.layout.Rows.{bars}
use Rattle.draw_run.proofs.layout.row.put_bars.Given as goal

abbrev pub invariant-loop-stretch : goal.invariant-loop-stretch
invariant-loop-stretch l =
    figures_seen l.figures.items
    ≡ figures_seen l.initial.figures.items
    ++ bars l.scale l.trace l.base (take l.stretch-index l.stretches)
