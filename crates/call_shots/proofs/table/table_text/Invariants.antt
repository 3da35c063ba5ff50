use Rattle.std.proofs.Common.{◌≡◌, take}
use Rattle.call_shots.specs.Table.{shots_text}
use Rattle.call_shots.proofs.table.table_text.Given as goal

abbrev pub invariant-loop-one : goal.invariant-loop-one
invariant-loop-one l =
    l.text.items
    ≡ shots_text l.cases.compiled.line.now l.cases.scripts.now l.cases.groups.now
    (take l.one-index l.rows)
