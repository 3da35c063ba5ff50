-- The worst choice of a box: each parameter at its end, each delay moving.
use Rattle.std.specs.Prelude.{◌&&◌, ◌≤◌, ◌<◌, ℕ, zero, suc, Bool, not, nat_le, if◌then◌else◌}
use Rattle.model_history.specs.{Elements.delayed, Rails.Rails, Rails.Ends}
use Rattle.model_logic.specs.Choice.{Choice, Box}
use Rattle.model_logic.specs.PairMean.{PairSignals}
use Rattle.model_line.specs.declared.script.Kind.TheVariants.{Internal, External}
use Rattle.model_line.specs.Parameters.{param_count, channel_count}
use Rattle.model_line.specs.{declared.line.Line.Line, declared.script.Kind.Kind, Channels.from_of}
use Rattle.model_settle.specs.Sides.{Rail, Must, May, Sides, number_at, value_on}

-- the last number below n that passes, or this one
abbrev pub last_below : (ℕ → Bool) → ℕ → ℕ → ℕ
last_below test none zero = none
last_below test none (suc n) = if test n then n else last_below test none n

-- what arrives at t after k ticks, at a rail
abbrev pub arrives : Rail → (ℕ → Rails) → ℕ → ℕ → Bool
arrives rail u t k = delayed (λ r. value_on rail (u r)) k t

-- what a delay is looked for that shows: on the may rail that something arrives, on the must rail
-- that nothing does
abbrev pub shows : Rail → Bool → Bool
shows Must b = not b
shows May b = b

-- the delay within the ends, for what arrives at t, that shows it; the least where none does
unfoldable pub worst_delay : Rail → (ℕ → Rails) → Ends → ℕ → ℕ
worst_delay rail u ends t =
    last_below (λ k. nat_le ends.least k && shows rail (arrives rail u t k)) ends.least
    (suc ends.greatest)

-- the worst choice of a box over the keys of its interval history
unfoldable pub worst_choice : Line → Sides → Box → PairSignals → Choice
worst_choice line sides box keys = record {
  number = λ i. number_at (sides.end_of i) (box.ends i);
  delay = λ c t. worst_delay (sides.key (from_of line.channels.items c))
      (keys (from_of line.channels.items c)) (box.delay c t) t;
}

-- each interval of the box is in order
pub record IsOrdered (line : Line) (box : Box) : Type 0 where
  pub numbers : (i : ℕ) → i < param_count line → (box.ends i).least ≤ (box.ends i).greatest
  pub delays : (c t : ℕ) → c < channel_count line → t < line.horizon
      → (box.delay c t).least ≤ (box.delay c t).greatest

-- the rail of the trip that decides an obligation's rule
abbrev pub deciding : Kind → Rail
deciding Internal = Must
deciding External = May
