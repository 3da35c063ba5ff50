use Rattle.std.proofs.Common.{◌≡◌, drop, map}
use Rattle.toml.specs.View.{table_view}
use Rattle.file_line.specs.Canonical.{put_groups}
use Rattle.file_line.proofs.table.OwnerTimes.put_groups.Given as goal

abbrev pub invariant-loop-group : goal.invariant-loop-group
invariant-loop-group l =
    put_groups l.self.unit l.self.line.now l.self.owner
    (map (λ group. group.now) (drop l.group-index l.groups)) (table_view l.table)
    ≡ put_groups l.self.unit l.self.line.now l.self.owner (map (λ group. group.now) l.groups)
    (table_view l.initial.table)
