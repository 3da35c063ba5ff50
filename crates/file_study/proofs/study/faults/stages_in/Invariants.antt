use Rattle.std.proofs.Common.{◌≡◌, [], drop, map}
use Rattle.toml.specs.View.{items_view}
use Rattle.file_line.specs.Lines.{line_values}
use Rattle.file_study.specs.study.Faults.{stage_values, stages_in}
use Rattle.file_study.proofs.study.faults.stages_in.Given as goal

abbrev pub invariant-loop-i : goal.invariant-loop-i
invariant-loop-i l =
    stages_in l.loose l.kind l.units (line_values l.line) l.path l.i (items_view (drop l.i l.items))
    (map stage_values l.stages.items)
    ≡ stages_in l.loose l.kind l.units (line_values l.line) l.path 0 (items_view l.items) []
