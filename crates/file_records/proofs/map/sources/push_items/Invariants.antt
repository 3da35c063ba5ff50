use Rattle.std.proofs.Common.{◌≡◌, drop, map}
use Rattle.toml.specs.View.{items_view}
use Rattle.file_records.specs.map.Sources.{source_values, sources_in}
use Rattle.file_records.proofs.map.sources.push_items.Given as goal

abbrev pub invariant-loop-i : goal.invariant-loop-i
invariant-loop-i l =
    sources_in l.path l.signal l.i (items_view (drop l.i l.items)) (map source_values l.sources.items)
    ≡ sources_in l.path l.signal 0 (items_view l.items)
    (map source_values l.initial.sources.items)
