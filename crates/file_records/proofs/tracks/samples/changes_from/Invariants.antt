use Rattle.std.proofs.Common.{◌≡◌, ◌≤◌, map}
use Rattle.file_comtrade.specs.SampleViews.{sample_values}
use Rattle.file_records.specs.tracks.Sampled.{changes_from}
use Rattle.file_records.proofs.tracks.samples.changes_from.Given as goal

abbrev pub invariant-loop-n : goal.invariant-loop-n
invariant-loop-n l = record {
  count : l.changes ≡ changes_from (map sample_values l.samples) l.from l.n;
  few : l.changes ≤ l.n;
}
