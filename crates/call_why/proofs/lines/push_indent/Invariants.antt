use Rattle.std.proofs.Common.{◌≡◌, ◌≤◌, ◌-◌, ◌++◌}
use Rattle.call_why.specs.Lines.{indent}
use Rattle.call_why.proofs.lines.push_indent.Given as goal

abbrev pub invariant-steps : goal.invariant-steps
invariant-steps l =
    (l.deep ≤ l.depth) × (l.text.items ≡ l.initial.text.items ++ indent l.deep)

abbrev pub decreases-steps : goal.decreases-steps
decreases-steps l = l.depth - l.deep
