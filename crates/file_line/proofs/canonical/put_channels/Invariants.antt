use Rattle.std.proofs.Common.{◌≡◌, ◌++◌, drop, map}
use Rattle.toml.specs.View.{view}
use Rattle.file_line.specs.Canonical.{channel_members, channels_data, tables_from}
use Rattle.file_line.proofs.canonical.put_channels.Given as goal

abbrev pub invariant-loop-c : goal.invariant-loop-c
invariant-loop-c l =
    map view l.tables.items ++ tables_from (channel_members l.unit l.line) l.c (drop l.c l.line.channels.items)
    ≡ channels_data l.unit l.line
