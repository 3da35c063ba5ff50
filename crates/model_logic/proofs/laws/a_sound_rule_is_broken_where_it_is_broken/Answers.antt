use Rattle.model_logic.proofs.SoundHistories.{sound_broken}
use Rattle.model_logic.proofs.laws.a_sound_rule_is_broken_where_it_is_broken.Goals as goal

pub returns : goal.returns
returns c = sound_broken c.history_laws.ensures
