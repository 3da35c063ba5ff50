-- What is asked of an obligation that is not held: with which moves of an end inward it is, 64 side by
-- side.
use Rattle.std.specs.Prelude.{◌≡◌, ◌≤◌, ◌<◌, ◌+◌, ◌-◌, ◌*◌, ◌/◌, ℕ, List, Option, MatchOption, Some, Decides}
use Rattle.std.specs.Prelude.{length, min, slice_get}
use Rattle.run_signal.specs.Bits.{bit_on}
use Rattle.model_line.specs.Fits.{Fits}
use Rattle.model_line.specs.Parameters.{param_count, terminal_count}
use Rattle.model_logic.specs.{Choice.declared_box, HeldOver.IsHeldOver}
use Rattle.judge_verdict.specs.boxes.Spans.{SpanLists, span_ends}
use Rattle.judge_slacks.specs.{declared.asked.Asked.Asked, declared.asked.Gap.Gap}
use Rattle.judge_slacks.specs.{Inward.CanMoveIn, Inward.narrowed, Needs.IsHeldIn}

-- the script fits, there are such a terminal and parameter, and the rule is not held today
pub record IsAsked (of : Asked) : Type 0 where
  pub fits : Fits of.compiled.line.now of.script.now
  pub terminal : of.terminal < terminal_count of.compiled.line.now
  pub param : of.param < param_count of.compiled.line.now
  pub off : ¬ (IsHeldOver of.compiled.line.now of.script.now of.terminal
      (declared_box of.compiled.line.now))

-- it is held with the end moved inward by n
abbrev pub IsHeldBy : Asked → ℕ → Type 0
IsHeldBy of n = IsHeldIn of.compiled.line.now of.script.now of.terminal of.param of.side n

abbrev pub CanMoveBy : Asked → ℕ → Type 0
CanMoveBy of n = CanMoveIn of.compiled.line.now of.param of.side n

-- it is not held with the end moved by `near`, and the end can be moved by `far`
pub record IsGap (of : Asked) (gap : Gap) : Type 0 where
  pub ordered : gap.near < gap.far
  pub can : CanMoveBy of gap.far
  pub off : ¬ (IsHeldBy of gap.near)

-- the n-th of 64 moves that stand apart by as little as they can, the last of which is the far one
abbrev pub apart : Gap → ℕ
apart gap = (gap.far - gap.near + 63) / 64

abbrev pub move_at : Gap → ℕ → ℕ
move_at gap n = min (gap.near + n * apart gap) gap.far

-- in each lane the span is the parameter's interval with the end moved
abbrev pub IsMoveSpan : Asked → Gap → ℕ → SpanLists → Type 0
IsMoveSpan of gap param span =
    (lane : ℕ) → lane < 64 → span_ends span lane
    ≡ (narrowed of.compiled.line.now of.param of.side (move_at gap (lane + 1))).ends param

-- a span for each parameter
pub record AreMoveSpans (of : Asked) (gap : Gap) (spans : List SpanLists) : Type 0 where
  pub count : length spans ≡ param_count of.compiled.line.now
  pub each : (param : ℕ) (span : SpanLists) → slice_get spans param ≡ Some span
      → IsMoveSpan of gap param span

-- each bit tells whether it is held with the move of the lane
abbrev pub TellMoves : Asked → Gap → ℕ → Type 0
TellMoves of gap bits =
    (lane : ℕ) → lane < 64 → Decides (bit_on bits lane) (IsHeldBy of (move_at gap (lane + 1)))

-- a gap inside that is no wider than two moves stand apart, at whose far end it is held
pub record IsCloser (of : Asked) (gap closer : Gap) : Type 0 where
  pub is : IsGap of closer
  pub held : IsHeldBy of closer.far
  pub narrow : closer.far ≤ closer.near + apart gap

-- there is such a gap, or it is not held at the far end
abbrev pub TellsCloser : Asked → Gap → Option Gap → Type 0
TellsCloser of gap closer =
    MatchOption closer (¬ (IsHeldBy of gap.far)) (λ c. IsCloser of gap c)
