use Rattle.file_records.proofs.recorded_lemmas.Telling.{plays_are_told as told_so, plays_are_accepted as accepted_so}
use Rattle.file_records.proofs.recorded.exported_laws.plays_are_told.Goals as goal

pub returns : goal.returns
returns c = record { told = told_so; accepted = accepted_so }
