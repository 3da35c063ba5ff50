use Rattle.std.proofs.Common.{◌≡◌, [], drop, map}
use Rattle.toml.specs.View.{items_view}
use Rattle.file_line.specs.Lines.{line_values}
use Rattle.file_study.specs.study.Faults.{fault_values, faults_in}
use Rattle.file_study.proofs.study.faults.faults_in.Given as goal

abbrev pub invariant-loop-i : goal.invariant-loop-i
invariant-loop-i l =
    faults_in l.loose l.units (line_values l.line) l.path l.i (items_view (drop l.i l.items))
    (map fault_values l.faults.items)
    ≡ faults_in l.loose l.units (line_values l.line) l.path 0 (items_view l.items) []
