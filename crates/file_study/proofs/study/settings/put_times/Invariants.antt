use Rattle.std.proofs.Common.{◌≡◌}
use Rattle.toml.specs.View.{table_view, members_view}
use Rattle.file_study.specs.study.Settings.{put_times}
use Rattle.file_study.proofs.study.settings.put_times.Given as goal

abbrev pub invariant-loop-key : goal.invariant-loop-key
invariant-loop-key l =
    put_times l.units l.path (members_view l.key-iterator) (table_view l.table)
    ≡ put_times l.units l.path (table_view l.times) (table_view l.initial.table)
