use Rattle.file_tables.proofs.script_lemmas.OneFile.{of_one_file}
use Rattle.file_tables.proofs.script.laws.a_file_says_scripts_of_one_file.Goals as goal

pub returns : goal.returns
returns c = of_one_file
