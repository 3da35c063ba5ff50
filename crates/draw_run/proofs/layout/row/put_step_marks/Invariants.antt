use Rattle.std.proofs.Common.{◌≡◌, ◌++◌, take}
use Rattle.draw_shapes.specs.Seen.{figures_seen}
use Rattle.draw_run.specs.layout.Rows.{step_marks}
use Rattle.draw_run.proofs.layout.row.put_step_marks.Given as goal

abbrev pub invariant-loop-mark : goal.invariant-loop-mark
invariant-loop-mark l =
    figures_seen l.figures.items
    ≡ figures_seen l.initial.figures.items
    ++ step_marks l.scale l.base (take l.mark-index l.marks)
