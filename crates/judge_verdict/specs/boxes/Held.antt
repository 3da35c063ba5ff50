-- Parts in blocks of 64, one in each lane, and what is told of each.
use Rattle.std.specs.Prelude.{◌≡◌, ◌<◌, ◌+◌, ◌-◌, ◌*◌, ℕ, Bool, List, Some, length, slice_get}
use Rattle.std.specs.Prelude.{nat_lt, Decides, if◌then◌else◌}
use Rattle.model_history.specs.Rails.{Rails, rails_at}
use Rattle.run_signal.specs.{Bits.bit_on, Lanes.in_lane}
use Rattle.run_signal.specs.SentKeys.{SentKeys}
use Rattle.model_line.specs.Parameters.{param_count, declared_ends}
use Rattle.model_line.specs.SetBounds.{SameButParams}
use Rattle.model_line.specs.{declared.line.Line.Line, declared.script.Script.Script}
use Rattle.model_logic.specs.{Choice.declared_box, HeldOver.IsHeldOver}
use Rattle.judge_verdict.specs.declared.boxes.terns.Terns64.{Terns64}
use Rattle.judge_verdict.specs.{boxes.Spans.SpanLists, boxes.Spans.span_ends, boxes.Terns.terns_rails}

-- each differs from the line in its intervals alone
pub record AreParts (line : Line) (parts : List Line) : Type 0 where
  pub each : (i : ℕ) (part : Line) → slice_get parts i ≡ Some part → SameButParams line part

-- the rule of terminal k is held over the declared box of a line
abbrev pub IsHeldOf : Script → ℕ → Line → Type 0
IsHeldOf script k line = IsHeldOver line script k (declared_box line)

-- for each part it is told whether the rule is held over it
pub record TellHeld (script : Script) (k : ℕ) (parts : List Line) (held : List Bool) : Type 0 where
  pub count : length held ≡ length parts
  pub each : (i : ℕ) (b : Bool) (part : Line) → slice_get held i ≡ Some b
      → slice_get parts i ≡ Some part → Decides b (IsHeldOf script k part)

-- the number of the part in a lane of the block that begins with part `first`; the lanes past the
-- last part repeat it
abbrev pub part_in : ℕ → ℕ → ℕ → ℕ
part_in count first lane = if nat_lt lane (count - first) then first + lane else count - 1

-- in each lane the span is the parameter's declared interval in the lane's part
abbrev pub IsPartSpan : List Line → ℕ → ℕ → SpanLists → Type 0
IsPartSpan parts first param span =
    (lane : ℕ) (part : Line) → lane < 64
    → slice_get parts (part_in (length parts) first lane) ≡ Some part
    → span_ends span lane ≡ declared_ends part param

-- a span for each parameter
pub record ArePartSpans (line : Line) (parts : List Line) (first : ℕ) (spans : List SpanLists)
    : Type 0 where
  pub count : length spans ≡ param_count line
  pub each : (param : ℕ) (span : SpanLists) → slice_get spans param ≡ Some span
      → IsPartSpan parts first param span

-- the bit of each lane tells whether the rule is held over the lane's part
pub record TellBlock (script : Script) (k : ℕ) (parts : List Line) (first bits : ℕ) : Type 0 where
  pub each : (lane : ℕ) (part : Line) → lane < 64
      → slice_get parts (part_in (length parts) first lane) ≡ Some part
      → Decides (bit_on bits lane) (IsHeldOf script k part)

-- so do those of each block
pub record TellBlocks (script : Script) (k : ℕ) (parts : List Line) (blocks : List ℕ) : Type 0 where
  pub each : (b bits : ℕ) → slice_get blocks b ≡ Some bits
      → TellBlock script k parts (64 * b) bits

-- ---- trips in a lane

abbrev pub trip_rails : SentKeys Terns64 → ℕ → ℕ → Rails
trip_rails trip lane t = rails_at (in_lane terns_rails lane trip.keys) t

abbrev pub must_trip : SentKeys Terns64 → ℕ → ℕ → Bool
must_trip trip lane t = (trip_rails trip lane t).must

abbrev pub may_trip : SentKeys Terns64 → ℕ → ℕ → Bool
may_trip trip lane t = (trip_rails trip lane t).may
