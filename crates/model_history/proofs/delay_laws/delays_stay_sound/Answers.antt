use Rattle.model_history.proofs.DelayLaws.{delayed_sound}
use Rattle.model_history.proofs.delay_laws.delays_stay_sound.Goals as goal

pub returns : goal.returns
returns c = λ u c t ordered sound. delayed_sound u (c t) t ordered sound
