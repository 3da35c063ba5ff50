use Rattle.file_records.proofs.recorded_lemmas.Recording.{scripts_show_plays as shown_so}
use Rattle.file_records.proofs.recorded.exported_laws.scripts_show_plays.Goals as goal

pub returns : goal.returns
returns c = shown_so c.a_script_shows_what_is_told.ensures
