use Rattle.std.proofs.Common.{◌≡◌, true, [], drop, length}
use Rattle.toml.specs.View.{items_view}
use Rattle.model_line.specs.Terminals.{are_plain_names}
use Rattle.file_study.specs.study.LineTables.{terminals_in}
use Rattle.file_study.proofs.study.line.terminals_in.Given as goal

abbrev pub invariant-loop-i : goal.invariant-loop-i
invariant-loop-i l =
    record {
      read :
          terminals_in l.path l.i (items_view (drop l.i l.names)) l.terminals.items
          ≡ terminals_in l.path 0 (items_view l.names) [];
      plain : are_plain_names l.terminals.items ≡ true;
      count : length l.terminals.items ≡ l.i;
    }
