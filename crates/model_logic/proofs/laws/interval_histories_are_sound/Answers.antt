use Rattle.model_logic.proofs.SoundHistories.{history_sound}
use Rattle.model_logic.proofs.laws.interval_histories_are_sound.Goals as goal

pub returns : goal.returns
returns c = history_sound c.history_laws.ensures
