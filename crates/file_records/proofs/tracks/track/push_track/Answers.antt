use Rattle.std.proofs.Common.{◌∷◌, [], ap, map, ◌∙◌}
use Rattle.std.proofs.lemmas.List.{map-append}
use Rattle.file_records.specs.tracks.Tracks.{track_values}
use Rattle.file_records.proofs.tracks.track.push_track.Goals as goal

pub returns : goal.returns
returns c = record {
  track = track_values c.in_ok-track.track;
  is = c.in_ok-track.ensures;
  more = ap (map track_values) c.in_ok-push.ensures.items
      ∙ map-append track_values c.args.tracks.now.items (c.in_ok-track.track ∷ []);
}
