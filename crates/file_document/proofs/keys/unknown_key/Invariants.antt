use Rattle.std.proofs.Common.{◌≡◌, ◌++◌, map}
use Rattle.toml.specs.View.{table_view, members_view}
use Rattle.model_line.specs.Settings.{time_key}
use Rattle.file_document.specs.Keys.{first_unknown}
use Rattle.file_document.proofs.keys.unknown_key.Given as goal

abbrev pub invariant-loop-key : goal.invariant-loop-key
invariant-loop-key l =
    first_unknown (map time_key l.settings ++ (map (λ name. name.now) l.known ++ l.names))
    (members_view l.key-iterator)
    ≡ first_unknown (map time_key l.settings ++ (map (λ name. name.now) l.known ++ l.names))
    (table_view l.table)
