use Rattle.std.proofs.Common.{◌≡◌, ◌≤◌, ◌+◌, drop, length, IsTrue}
use Rattle.std.specs.List.{list_all}
use Rattle.file_study.specs.study.Faults.{stage_values}
use Rattle.file_borders.specs.Drawn.{drawing, first_of, later_in, with_all, with_stage}
use Rattle.file_borders.specs.Loose.{comes_by}
use Rattle.file_borders.proofs.drawn.push_stage.Given as goal

abbrev pub invariant-loop-shown : goal.invariant-loop-shown
invariant-loop-shown l = record {
  is : with_all l.at l.from l.to (drop l.shown-index l.stage.shows.items) (drawing l.all)
      ≡ with_stage l.at l.from (stage_values l.stage) (drawing l.fn.all);
  borders : length l.all.borders.items + later_in (drop l.shown-index l.stage.shows.items) ≤ 100;
  in_time : IsTrue (list_all (comes_by (first_of (stage_values l.stage))) (drop l.shown-index l.stage.shows.items));
}
