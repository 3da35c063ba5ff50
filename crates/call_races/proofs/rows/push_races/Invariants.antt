use Rattle.std.proofs.Common.{◌≡◌, ◌++◌, take}
use Rattle.net_gates.specs.Formulas.{trees_of}
use Rattle.call_races.specs.Rows.{races_rows}
use Rattle.call_races.proofs.rows.push_races.Given as goal

abbrev pub invariant-loop-race : goal.invariant-loop-race
invariant-loop-race l =
    l.text.items
    ≡ l.initial.text.items
    ++ races_rows l.compiled.line.now l.group l.k (trees_of l.compiled.net.now.gates l.ids)
    (take l.race-index l.races)
