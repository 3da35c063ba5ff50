use Rattle.std.proofs.Common.{◌≡◌, ◌≤◌, ◌+◌, drop, length, map, IsTrue}
use Rattle.std.specs.List.{list_all}
use Rattle.file_study.specs.study.Faults.{stage_values}
use Rattle.file_borders.specs.Drawn.{borders_of, drawing, drawing_of, drawn_from, least_sum}
use Rattle.file_borders.specs.Loose.{comes_in_time}
use Rattle.file_borders.proofs.drawn.draw.Given as goal

abbrev pub invariant-loop-stage : goal.invariant-loop-stage
invariant-loop-stage l = record {
  is : drawn_from l.at l.from (map stage_values (drop l.stage-index l.stages)) (drawing l.all)
      ≡ drawing_of l.start (map stage_values l.stages);
  ticks : l.at.ticks + least_sum (map stage_values (drop l.stage-index l.stages)) ≤ 4000;
  borders : length l.all.borders.items + borders_of (map stage_values (drop l.stage-index l.stages)) ≤ 100;
  lengths : l.at.lengths + 1 ≤ length l.all.borders.items;
  shown : IsTrue (list_all comes_in_time (map stage_values (drop l.stage-index l.stages)));
}
