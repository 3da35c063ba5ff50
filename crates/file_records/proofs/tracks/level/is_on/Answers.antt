use Rattle.std.proofs.Common.{◌∙◌, sym}
use Rattle.file_records.proofs.tracks_lemmas.Mapped.{any_track}
use Rattle.file_records.proofs.tracks.level.is_on.Goals as goal

pub returns : goal.returns
returns c = c.any_tells.ensures ∙ sym (any_track c.args.signal c.args.t c.args.tracks.now)
