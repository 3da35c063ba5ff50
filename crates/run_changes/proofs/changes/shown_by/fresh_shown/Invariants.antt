use Rattle.std.proofs.Common.{◌+◌, ◌≤◌, length}
use Rattle.std.specs.Prelude.{vec_capacity}
use Rattle.run_changes.specs.changes.ShownBy.{AreListed}
use Rattle.run_changes.proofs.changes.shown_by.fresh_shown.Given as goal

abbrev pub invariant-loop-i : goal.invariant-loop-i
invariant-loop-i l = record {
  listed : AreListed l.script l.net.gates l.i l.spans.items l.starts.items;
  room : length l.net.gates + 1 ≤ vec_capacity l.starts;
}
