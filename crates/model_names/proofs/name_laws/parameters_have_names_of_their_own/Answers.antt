use Rattle.model_names.proofs.NamesApart.{names_apart}
use Rattle.model_names.proofs.name_laws.parameters_have_names_of_their_own.Goals as goal

pub returns : goal.returns
returns c = names_apart
