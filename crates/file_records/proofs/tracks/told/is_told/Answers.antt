use Rattle.std.proofs.Common.{◌∙◌, sym}
use Rattle.file_records.proofs.tracks_lemmas.Mapped.{any_recorder}
use Rattle.file_records.proofs.tracks.told.is_told.Goals as goal

pub returns : goal.returns
returns c = c.any_told.ensures ∙ sym (any_recorder c.args.signal c.args.recorders.now)
