use Rattle.std.proofs.Common.{◌≡◌, ◌+◌, drop, length, codes, map}
use Rattle.toml.specs.View.{items_view}
use Rattle.file_line.specs.Places.{places_of, places_in}
use Rattle.file_line.specs.{Lines.values_of, Lines.items_at}
use Rattle.file_line.specs.TerminalTables.{terminal_at, terminals_at}
use Rattle.file_line.proofs.terminal.terminals.Given as goal

abbrev pub invariant-loop-i : goal.invariant-loop-i
invariant-loop-i l =
    record {
      read :
          items_at (terminal_at l.unit) (places_in (codes "terminal") (map places_of l.told)) l.i (items_view (drop l.i l.values)) (values_of l.line)
          ≡ terminals_at (map places_of l.told) l.unit (items_view l.values) (values_of l.initial.line);
      count : length l.line.terminals.items ≡ length l.initial.line.terminals.items + l.i;
      channels : l.line.channels.items ≡ l.initial.line.channels.items;
    }
