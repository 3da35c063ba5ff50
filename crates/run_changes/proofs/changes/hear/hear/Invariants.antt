use Rattle.std.proofs.Common.{◌≡◌, ◌+◌, length}
use Rattle.run_changes.specs.changes.Hears.{AreHeard}
use Rattle.run_changes.specs.{changes.Marks.AreMarked, changes.Readers.AreHastened}
use Rattle.run_changes.proofs.changes.hear.hear.Given as goal

abbrev pub invariant-loop-channel : goal.invariant-loop-channel
invariant-loop-channel g l = record {
  dues : length l.dues.items ≡ length l.net.gates;
  marks : AreMarked l.dues.items l.marks;
  next : l.marks.next ≡ l.moment.t + 1;
  horizon : l.marks.horizon ≡ l.initial.marks.horizon;
  hastened : AreHastened l.initial.dues.items l.dues.items;
  heard : AreHeard g.V.Signal.signal l.net l.column l.channel
      l.moment.delays.now l.moment.sent.now l.moment.t l.dues.items;
}
