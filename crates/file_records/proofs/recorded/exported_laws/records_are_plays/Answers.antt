use Rattle.file_records.proofs.recorded_lemmas.Recording.{records_are_plays as recorded_so}
use Rattle.file_records.proofs.recorded.exported_laws.records_are_plays.Goals as goal

pub returns : goal.returns
returns c = recorded_so
