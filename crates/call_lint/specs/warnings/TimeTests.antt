-- What is suspicious in a time.
use Rattle.std.specs.Prelude.{◌&&◌, ◌||◌, ◌==◌, ◌*◌, ◌%◌, ℕ, Bool, not, nat_le, nat_lt}
use Rattle.file_study.specs.declared.times.fraction.Fraction.{Fraction}
use Rattle.file_study.specs.declared.times.time.Interval.{Interval}
use Rattle.file_study.specs.times.Times.{IsEnd}
use Rattle.model_history.specs.Rails.{Ends}
use Rattle.model_line.specs.{declared.line.Line.Line, Parameters.declared_ends}
use Rattle.model_line.specs.Parameters.{is_delay}

-- both ends are times
abbrev pub AreEnds : Interval → Type 0
AreEnds ends = IsEnd ends.least × IsEnd ends.greatest

-- a time in microseconds is not 0, and less than a tick
abbrev pub is_below_tick : ℕ → Fraction → Bool
is_below_tick tick_us time = nat_lt 0 time.over && nat_lt time.over (tick_us * time.under)

-- a time in microseconds is so many ticks, and nothing more
abbrev pub is_whole : ℕ → Fraction → Bool
is_whole tick_us time = time.over % (tick_us * time.under) == 0

-- it is no whole number of ticks, and would be one if they were shorter: a whole number of microseconds
-- is, and of cycles of 60 Hz few are
abbrev pub is_off : ℕ → Fraction → Bool
is_off tick_us time = not (is_whole tick_us time) && is_whole 1 time

-- so is an end of the interval
abbrev pub is_rounded : ℕ → Interval → Bool
is_rounded tick_us ends = is_off tick_us ends.least || is_off tick_us ends.greatest

-- no time of the interval is over within the horizon
abbrev pub is_past : ℕ → Ends → Bool
is_past horizon ends = nat_le horizon ends.least

-- some is, and the greatest is not
abbrev pub reaches : ℕ → Ends → Bool
reaches horizon ends = nat_lt ends.least horizon && nat_le horizon ends.greatest

-- the greatest is more than a hundred times the least, which is not 0
abbrev pub is_wide : Ends → Bool
is_wide ends = nat_lt 0 ends.least && nat_lt (100 * ends.least) ends.greatest

-- a channel's delay, of which one number alone is declared
abbrev pub is_fixed_delay : Line → ℕ → Bool
is_fixed_delay line i =
    is_delay line i && ((declared_ends line i).least == (declared_ends line i).greatest)
