use Rattle.std.proofs.Common.{◌≡◌}
use Rattle.call_tables.specs.Written.{results_of, rows_of}
use Rattle.call_tables.proofs.TextLaws.{begun}
use Rattle.call_tables.proofs.trees.settle_trees.Given as goal

-- the head and the parts of the first scripts
abbrev pub invariant-loop-s : goal.invariant-loop-s
invariant-loop-s l =
    l.text.items
    ≡ begun l.study.line l.study.scripts.items (λ s. results_of (rows_of l.study.line l.rows s)) l.s
