use Rattle.model_history.proofs.SoundLaws.{not_sound, and_sound, or_sound, timed_sound}
use Rattle.model_history.proofs.SoundLaws.{sealed_sound}
use Rattle.model_history.proofs.rails_laws.rails_stay_sound.Goals as goal

pub returns : goal.returns
returns c = record {
  not = not_sound;
  and = and_sound;
  or = or_sound;
  timed = timed_sound;
  sealed = sealed_sound;
}
