use Rattle.std.proofs.Common.{◌≡◌, ◌++◌, drop, map, IsTrue}
use Rattle.std.specs.List.{list_all}
use Rattle.file_study.specs.study.Faults.{stage_values}
use Rattle.file_borders.specs.Drawn.{part_of}
use Rattle.file_borders.specs.Loose.{has_one_time}
use Rattle.file_borders.proofs.part.part_of.Given as goal

abbrev pub invariant-loop-stage : goal.invariant-loop-stage
invariant-loop-stage l = record {
  is : l.part.items ++ part_of (map stage_values (drop l.stage-index l.stages))
      ≡ part_of (map stage_values l.stages);
  ordered : IsTrue (list_all has_one_time (map stage_values (drop l.stage-index l.stages)));
}
