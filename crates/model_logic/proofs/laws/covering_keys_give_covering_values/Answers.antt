use Rattle.model_logic.proofs.CoveringKeys.{covering_keys}
use Rattle.model_logic.proofs.laws.covering_keys_give_covering_values.Goals as goal

pub returns : goal.returns
returns c line script box choice keys plain t d within cover x lt named =
    covering_keys c.history_laws.ensures line script box choice keys plain t d within cover x lt named
