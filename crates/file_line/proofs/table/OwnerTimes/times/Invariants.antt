use Rattle.std.proofs.Common.{◌≡◌, drop, map}
use Rattle.toml.specs.{Data.no_members, View.table_view}
use Rattle.file_line.specs.Canonical.{put_all, setting_pair}
use Rattle.file_line.proofs.table.OwnerTimes.times.Given as goal

abbrev pub invariant-loop-setting : goal.invariant-loop-setting
invariant-loop-setting l =
    put_all (map (setting_pair l.self.unit l.self.line.now l.self.owner)
    (drop l.setting-index l.settings)) (table_view l.table)
    ≡ put_all (map (setting_pair l.self.unit l.self.line.now l.self.owner) l.settings) no_members
