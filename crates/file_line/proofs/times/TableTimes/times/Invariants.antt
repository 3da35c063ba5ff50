use Rattle.std.proofs.Common.{◌≡◌, drop}
use Rattle.toml.specs.View.{table_view}
use Rattle.file_line.specs.Places.{in_table}
use Rattle.file_line.specs.Times.{times_at}
use Rattle.file_line.proofs.times.TableTimes.times.Given as goal

abbrev pub invariant-loop-setting : goal.invariant-loop-setting
invariant-loop-setting l =
    times_at (in_table l.path) (drop l.setting-index l.settings) l.self.unit (table_view l.self.table.now)
    l.intervals.items
    ≡ times_at (in_table l.path) l.settings l.self.unit (table_view l.self.table.now)
    l.initial.intervals.items
