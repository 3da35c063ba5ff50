use Rattle.std.proofs.Common.{◌≡◌, ◌++◌, drop, map}
use Rattle.toml.specs.View.{view}
use Rattle.file_line.specs.Canonical.{terminal_members, terminals_data, tables_from}
use Rattle.file_line.proofs.canonical.put_terminals.Given as goal

abbrev pub invariant-loop-k : goal.invariant-loop-k
invariant-loop-k l =
    map view l.tables.items ++ tables_from (terminal_members l.unit l.line) l.k (drop l.k l.line.terminals.items)
    ≡ terminals_data l.unit l.line
