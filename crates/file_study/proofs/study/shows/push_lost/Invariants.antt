use Rattle.std.proofs.Common.{◌≡◌, drop}
use Rattle.toml.specs.View.{items_view}
use Rattle.file_line.specs.Lines.{line_values}
use Rattle.file_study.specs.study.Shows.{all_lost}
use Rattle.file_study.proofs.study.shows.push_lost.Given as goal

abbrev pub invariant-loop-i : goal.invariant-loop-i
invariant-loop-i l =
    all_lost (line_values l.line) l.path l.i (items_view (drop l.i l.items)) l.shows.items
    ≡ all_lost (line_values l.line) l.path 0 (items_view l.items) l.initial.shows.items
