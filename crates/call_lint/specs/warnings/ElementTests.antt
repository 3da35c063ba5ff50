-- What is suspicious in the elements of a terminal, and in what scripts show of them.
use Rattle.std.specs.Prelude.{◌||◌, ℕ, Bool, false, List, Option, Some, None, nat_lt}
use Rattle.std.specs.List.{list_any}
use Rattle.model_line.specs.declared.line.Owner.TheVariants as owner
use Rattle.model_line.specs.{declared.line.Line.Line, declared.line.Setting.Setting}
use Rattle.model_line.specs.{declared.script.Place.Place, declared.script.Script.Script}
use Rattle.model_line.specs.{Parameters.param_number, Parameters.declared_ends, Seen.is_of_place}

-- the script has a span of the place
abbrev pub is_shown_in : Place → Script → Bool
is_shown_in place script = list_any (λ s. is_of_place place s.what) script.spans.items

-- some script has
abbrev pub is_shown : List Script → Place → Bool
is_shown scripts place = list_any (is_shown_in place) scripts

-- the greatest number of ticks of a parameter; 0 where there is none
abbrev pub greatest_of : Line → Option ℕ → ℕ
greatest_of line None = 0
greatest_of line (Some i) = (declared_ends line i).greatest

-- a setting of terminal k can be other than 0
abbrev pub is_set : Line → ℕ → Setting → Bool
is_set line k x = nat_lt 0 (greatest_of line (param_number line (owner.Terminal k) x))

-- the pickup or the dropout can be other than 0
abbrev pub is_timed : Line → ℕ → Option (Setting × Setting) → Bool
is_timed line k None = false
is_timed line k (Some (pickup, dropout)) = is_set line k pickup || is_set line k dropout
