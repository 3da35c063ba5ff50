use Rattle.file_records.proofs.recorded_lemmas.Showing.{shows_what_is_told}
use Rattle.file_records.proofs.recorded.laws.a_script_shows_what_is_told.Goals as goal

pub returns : goal.returns
returns c = shows_what_is_told
