use Rattle.std.proofs.Common.{◌≡◌, ◌≤◌, length}
use Rattle.file_comtrade.specs.Places.{behind}
use Rattle.file_comtrade.proofs.places.behind.Given as goal

abbrev pub invariant-loop-i : goal.invariant-loop-i
invariant-loop-i l = record {
  rest : l.rest ≡ behind l.byte l._i l.text;
  shorter : length l.rest ≤ length l.text;
}
