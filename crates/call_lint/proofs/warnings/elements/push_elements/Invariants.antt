use Rattle.std.proofs.Common.{◌≡◌, ◌++◌, take}
use Rattle.std.specs.List.{flat_map}
use Rattle.call_lint.specs.warnings.Warnings.{element_warnings}
use Rattle.call_lint.proofs.warnings.elements.push_elements.Given as goal

abbrev pub invariant-loop-element : goal.invariant-loop-element
invariant-loop-element l =
    l.list.items ≡ l.initial.list.items
    ++ flat_map (element_warnings l.line l.scripts l.k) (take l.element-index l.elements)
