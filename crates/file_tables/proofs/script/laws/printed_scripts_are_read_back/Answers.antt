use Rattle.file_tables.proofs.script_lemmas.ReadBack.{read_back_so}
use Rattle.file_tables.proofs.script.laws.printed_scripts_are_read_back.Goals as goal

pub returns : goal.returns
returns c = read_back_so
