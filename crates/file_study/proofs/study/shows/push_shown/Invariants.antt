use Rattle.std.proofs.Common.{◌≡◌, drop}
use Rattle.toml.specs.View.{items_view}
use Rattle.file_study.specs.study.Shows.{all_shown}
use Rattle.file_study.proofs.study.shows.push_shown.Given as goal

abbrev pub invariant-loop-i : goal.invariant-loop-i
invariant-loop-i l =
    all_shown l.upward l.units l.lasts l.k l.path l.i (items_view (drop l.i l.items)) l.shows.items
    ≡ all_shown l.upward l.units l.lasts l.k l.path 0 (items_view l.items) l.initial.shows.items
