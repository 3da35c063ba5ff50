-- The worst corner of the declared intervals: each number at its end, each delay the worst.
use Rattle.std.specs.Prelude.{ℕ, List, map}
use Rattle.model_line.specs.{Settings.line_settings, Parameters.declared_ends}
use Rattle.model_line.specs.{declared.line.Line.Line, declared.line.Setting.Setting}
use Rattle.model_logic.specs.Choice.{Choice, declared_box}
use Rattle.model_logic.specs.Histories.{PairHistory}
use Rattle.model_settle.specs.Sides.{Rail, number_at}
use Rattle.model_settle.specs.{Worst.worst_choice, Schemes.scheme_sides}

-- the setting that each parameter is, in order
abbrev pub settings_in_order : Line → List Setting
settings_in_order line =
    map (λ s. s.setting) (line_settings line.scheme line.terminals.items line.channels.items)

-- the declared number of a parameter at the end at which it is asked for where trips are read on
-- this rail
abbrev pub worst_number : Line → Rail → ℕ → ℕ
worst_number line rail i =
    number_at ((scheme_sides line rail).end_of i) (declared_ends line i)

-- the worst choice inside the declared intervals over an interval history
abbrev pub corner : Line → Rail → PairHistory → Choice
corner line rail w = worst_choice line (scheme_sides line rail) (declared_box line) w.key
