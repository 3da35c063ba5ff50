use Rattle.file_tables.proofs.script_lemmas.Lengths.{file_short}
use Rattle.file_tables.proofs.script.laws.a_file_of_scripts_is_short.Goals as goal

pub returns : goal.returns
returns c = file_short
