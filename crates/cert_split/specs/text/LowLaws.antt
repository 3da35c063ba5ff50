-- No interval of a declared box goes past 4,000 ticks, and none of the halves of such a box.
use Rattle.std.proofs.Common.{◌≤◌, ◌<◌, ◌+◌, ◌==◌, ℕ, Bool, true, false, cond}
use Rattle.model_history.specs.Rails.{Ends}
use Rattle.model_line.specs.declared.line.Line.{Line}
use Rattle.model_line.specs.{Parameters.param_count, Laws.DeclaredIntervalsAreInOrder}
use Rattle.model_logic.specs.Choice.{Box, declared_box}
use Rattle.model_logic.specs.Boxes.{lower_half, upper_half}

-- no interval goes past 4,000 ticks
abbrev pub IsLow : Line → Box → Type 0
IsLow line box = (i : ℕ) → i < param_count line → (box.ends i).greatest ≤ 4000

pub low_declared : DeclaredIntervalsAreInOrder → (line : Line) → IsLow line (declared_box line)
unfolding declared_box
low_declared order line = order.within line

one_of_two : (b : Bool) (x y : Ends) → x.greatest ≤ 4000 → y.greatest ≤ 4000
    → (cond b x y).greatest ≤ 4000
one_of_two true x y a b = a
one_of_two false x y a b = b

pub low_lower : (line : Line) (box : Box) (param mid : ℕ) → mid ≤ 4000 → IsLow line box
    → IsLow line (lower_half box param mid)
low_lower line box param mid small low = λ i lt.
    one_of_two (i == param) (record { least = (box.ends param).least; greatest = mid })
    (box.ends i) small (low i lt)

pub low_upper : (line : Line) (box : Box) (param mid : ℕ) → param < param_count line
    → IsLow line box → IsLow line (upper_half box param mid)
low_upper line box param mid here low = λ i lt.
    one_of_two (i == param)
    (record { least = mid + 1; greatest = (box.ends param).greatest })
    (box.ends i) (low param here) (low i lt)
