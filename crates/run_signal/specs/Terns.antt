-- The rails of a value that may be unknown.
use Rattle.std.specs.Prelude.{true, false, if◌then◌else◌}
use Rattle.model_history.specs.Rails.{Rails, Ends, both}
use Rattle.run_signal.specs.Signals.{SignalOf}
use Rattle.run_signal.specs.declared.tern.Tern.{Tern}
use Rattle.run_signal.specs.declared.tern.Tern.TheVariants.{Zero, One, Unknown}

abbrev pub tern_rails : Tern → Rails
tern_rails Zero = both false
tern_rails One = both true
tern_rails Unknown = record { must = false; may = true }

-- the value with these rails, where what must be may be
abbrev pub tern_with : Rails → Tern
tern_with rails = if rails.must then One else if rails.may then Unknown else Zero

-- one lane, in which a span is its two ends
abbrev pub tern_signal : SignalOf Tern Ends
tern_signal = record { lanes = 1; rails = λ x _. tern_rails x; ends = λ span _. span }
