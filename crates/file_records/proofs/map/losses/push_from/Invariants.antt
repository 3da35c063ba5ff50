use Rattle.std.proofs.Common.{◌≡◌, drop}
use Rattle.toml.specs.View.{table_view}
use Rattle.file_records.specs.map.Signals.{signals_values, losses_from}
use Rattle.file_records.proofs.map.losses.push_from.Given as goal

abbrev pub invariant-loop-j : goal.invariant-loop-j
invariant-loop-j l =
    losses_from l.line l.path l.k (table_view l.table) l.j (drop l.j l.terminals)
    (signals_values l.signals)
    ≡ losses_from l.line l.path l.k (table_view l.table) 0 l.terminals
    (signals_values l.initial.signals)
