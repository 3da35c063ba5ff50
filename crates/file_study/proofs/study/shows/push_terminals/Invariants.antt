use Rattle.std.proofs.Common.{◌≡◌, drop}
use Rattle.toml.specs.View.{table_view}
use Rattle.file_study.specs.study.Shows.{terminals_show}
use Rattle.file_study.proofs.study.shows.push_terminals.Given as goal

abbrev pub invariant-loop-k : goal.invariant-loop-k
invariant-loop-k l =
    terminals_show l.upward l.units l.lasts l.path (table_view l.table) l.k (drop l.k l.terminals)
    l.shows.items
    ≡ terminals_show l.upward l.units l.lasts l.path (table_view l.table) 0 l.terminals
    l.initial.shows.items
