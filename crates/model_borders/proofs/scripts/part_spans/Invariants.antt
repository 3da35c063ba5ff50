use Rattle.std.proofs.Common.{◌≡◌, map, take}
use Rattle.model_borders.specs.Borders.{part_span}
use Rattle.model_borders.proofs.scripts.part_spans.Given as goal

abbrev pub invariant-loop-i : goal.invariant-loop-i
invariant-loop-i l =
    l.spans.items ≡ map (part_span l.certain l.script l.part l.still l.place) (take l.i l.script.spans.items)
