use Rattle.std.proofs.Common.{◌∙◌}
use Rattle.file_records.proofs.tracks_lemmas.Joined.{joined}
use Rattle.file_records.proofs.tracks.table.row_of.Goals as goal

pub returns : goal.returns
returns c =
    joined _ _ _ _ _ _ _ _ _ _ _ _
    (c.in_ok-from_slice.ensures.items ∙ c.config_name.ensures)
    c.in_ok-signal_fields.ensures
    c.in_ok-channel_text.ensures
    (c.in_ok-from_slice-2.ensures.items ∙ c.level_word.ensures)
    c.in_ok-course.ensures
