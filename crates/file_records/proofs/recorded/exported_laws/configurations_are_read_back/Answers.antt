use Rattle.file_records.proofs.recorded_lemmas.Whole.{configs_are_read_back as proved}
use Rattle.file_records.proofs.recorded.exported_laws.configurations_are_read_back.Goals as goal

pub returns : goal.returns
returns c = proved
