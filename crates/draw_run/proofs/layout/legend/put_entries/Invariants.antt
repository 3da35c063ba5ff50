use Rattle.std.proofs.Common.{◌≡◌, ◌++◌, take}
use Rattle.std.specs.List.{flat_map}
use Rattle.draw_shapes.specs.Seen.{figures_seen}
use Rattle.draw_run.specs.layout.Legend.{entry_if_any}
use Rattle.draw_run.proofs.layout.legend.put_entries.Given as goal

abbrev pub invariant-loop-bar : goal.invariant-loop-bar
invariant-loop-bar l =
    figures_seen l.figures.items
    ≡ figures_seen l.initial.figures.items
    ++ flat_map (entry_if_any l.rows l.top) (take l.bar-index l.bars)
