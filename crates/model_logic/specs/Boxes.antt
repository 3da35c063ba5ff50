-- Boxes with another interval for one parameter.
use Rattle.std.specs.Prelude.{◌≡◌, ◌≤◌, ◌<◌, ◌+◌, ◌==◌, ℕ, List, IsTrue, get_or, if◌then◌else◌}
use Rattle.model_history.specs.Rails.{Ends, single}
use Rattle.model_line.specs.Parameters.{param_count, channel_count, delay_param, declared_ends}
use Rattle.model_line.specs.Parameters.{is_delay}
use Rattle.model_line.specs.declared.line.Line.{Line}
use Rattle.model_logic.specs.Choice.{Box}

-- the intervals with another one for this parameter
abbrev pub ends_with : (ℕ → Ends) → ℕ → Ends → ℕ → Ends
ends_with ends param new i = if i == param then new else ends i

-- the interval of this number in a list of them; past the last 0
abbrev pub interval_of : List Ends → ℕ → Ends
interval_of ends i = get_or ends i (single 0)

-- the box of these intervals
abbrev pub box_by : (ℕ → Ends) → (ℕ → ℕ → Ends) → Box
box_by ends delay = record { ends = ends; delay = delay }

-- the box of these intervals of the line's parameters, each delay's the same at every tick
abbrev pub box_of : Line → (ℕ → Ends) → Box
box_of line ends = record { ends = ends; delay = λ c t. ends (delay_param line c) }

-- the box of the declared intervals with another one for this parameter; if it is a delay, for the
-- delay at every tick
abbrev pub declared_with : Line → ℕ → Ends → Box
declared_with line param new = box_of line (ends_with (declared_ends line) param new)

-- the box with another interval for a number; each delay stays
abbrev pub box_with : Box → ℕ → Ends → Box
box_with box param new = record { ends = ends_with box.ends param new; delay = box.delay }

-- the two are the same in each interval of the line's
pub record IsSameBox (line : Line) (a b : Box) : Type 0 where
  pub numbers : (i : ℕ) → i < param_count line → a.ends i ≡ b.ends i
  pub delays : (c t : ℕ) → c < channel_count line → t < line.horizon → a.delay c t ≡ b.delay c t

-- the lower half of a box, up to `mid` of a parameter, and the upper half, from `mid + 1` on
abbrev pub lower_half : Box → ℕ → ℕ → Box
lower_half box param mid =
    box_with box param (record { least = (box.ends param).least; greatest = mid })

abbrev pub upper_half : Box → ℕ → ℕ → Box
upper_half box param mid =
    box_with box param (record { least = mid + 1; greatest = (box.ends param).greatest })

-- the box can be split there: at a parameter of the line that is no delay, so that neither half is
-- empty
pub record CanSplit (line : Line) (box : Box) (param mid : ℕ) : Type 0 where
  pub exists : param < param_count line
  pub number : ¬ (IsTrue (is_delay line param))
  pub above : (box.ends param).least ≤ mid
  pub below : mid < (box.ends param).greatest
