use Rattle.std.proofs.Common.{◌≡◌, ◌++◌, take}
use Rattle.std.specs.List.{flat_map}
use Rattle.draw_run.specs.diagram.Traces.{logic_of_part}
use Rattle.draw_run.proofs.diagram.trace.push_parts.Given as goal

abbrev pub invariant-loop-part : goal.invariant-loop-part
invariant-loop-part l =
    l.all.items
    ≡ l.initial.all.items
    ++ flat_map (logic_of_part l.compiled.line.now l.compiled.net.now.gates)
    (take l.part-index l.parts)
