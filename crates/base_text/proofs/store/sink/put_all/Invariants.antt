use Rattle.std.proofs.Common.{length, ◌+◌, ◌-◌, ◌≡◌, ◌≤◌, take}
use Rattle.std.specs.Io.KnownBytes.{Appends}
use Rattle.base_text.proofs.store.sink.put_all.Given as goal

abbrev pub invariant-loop-at : goal.invariant-loop-at
invariant-loop-at g l = record {
  within : l.at ≤ length l.bytes;
  written : Appends (g.K.Sink.written l.fn.sink) (g.K.Sink.written l.sink) (take l.at l.bytes);
  same : g.K.Sink.faults l.sink ≡ g.K.Sink.faults l.fn.sink;
  pushed : g.K.Sink.pushes l.fn.sink ≤ g.K.Sink.pushes l.sink;
  pushes : g.K.Sink.pushes l.sink ≤ g.K.Sink.pushes l.fn.sink + l.at;
}

abbrev pub decreases-loop-at : goal.decreases-loop-at
decreases-loop-at g l = length l.bytes - l.at
