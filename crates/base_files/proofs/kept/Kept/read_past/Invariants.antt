use Rattle.std.proofs.Common.{◌≤◌, length}
use Rattle.std.specs.Io.KnownBytes.{Keeps}
use Rattle.base_files.specs.Kept.{whole_of}
use Rattle.base_files.proofs.kept.Kept.read_past.Given as goal

abbrev pub invariant-loop-turn : goal.invariant-loop-turn
invariant-loop-turn g l = record {
  reached : l._turn ≤ length l.self.kept;
  whole : Keeps (whole_of l.fn.self) (whole_of l.self);
}
