-- The rails of a level.
use Rattle.std.specs.Prelude.{ℕ, true, false}
use Rattle.model_history.specs.Rails.{Rails, both, single}
use Rattle.run_signal.specs.Signals.{SignalOf}
use Rattle.run_signal.specs.declared.level.Level.{Level}
use Rattle.run_signal.specs.declared.level.Level.TheVariants.{Off, On}

abbrev pub level_rails : Level → Rails
level_rails Off = both false
level_rails On = both true

-- one lane, in which a span is one number of ticks
abbrev pub level_signal : SignalOf Level ℕ
level_signal = record { lanes = 1; rails = λ x _. level_rails x; ends = λ span _. single span }
