use Rattle.std.proofs.Common.{refl}
use Rattle.file_records.proofs.tracks.track.read_track.Goals as goal

pub returns : goal.returns
returns c = record {
  signal = refl;
  levels = c.in_ok-told.told.at_ticks.items;
  are = c.in_ok-told.ensures.0;
  turns = c.in_ok-levels.ensures;
  sampled = c.in_ok-told.ensures.1;
}
