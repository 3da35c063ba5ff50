-- Laws of the rails of a level.
use Rattle.std.specs.Prelude.{◌≡◌, refl}
use Rattle.model_history.specs.Rails.{IsSound}
use Rattle.run_signal.specs.declared.level.Level.{Level}
use Rattle.run_signal.specs.declared.level.Level.TheVariants.{Off, On}
use Rattle.run_signal.specs.Levels.{level_rails}

-- what must be may be
pub level_sound : (x : Level) → IsSound (level_rails x)
level_sound Off on = on
level_sound On on = on

-- both rails are the same
pub one_rail : (x : Level) → (level_rails x).must ≡ (level_rails x).may
one_rail Off = refl
one_rail On = refl
