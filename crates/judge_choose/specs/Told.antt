-- Which obligations are held over each of up to 64 covers, side by side.
use Rattle.std.specs.Prelude.{◌≡◌, ◌<◌, ◌-◌, ◌*◌, ◌/◌, ◌%◌, ℕ, List, Some, Decides, length, min, slice_get}
use Rattle.run_signal.specs.Bits.{bit_on}
use Rattle.model_line.specs.{declared.line.Line.Line, declared.script.Script.Script}
use Rattle.model_line.specs.Parameters.{param_count, terminal_count}
use Rattle.model_logic.specs.{Choice.Box, HeldOver.IsHeldOver}
use Rattle.judge_verdict.specs.boxes.Spans.{SpanLists, span_ends}
use Rattle.judge_choose.specs.{declared.cover.Cover.Cover, Positions.IsCover, Positions.box_of_cover}

-- the obligation at a place, script by script and in each terminal by terminal, is held over a box
pub record IsHeldAt (line : Line) (scripts : List Script) (box : Box) (place : ℕ) : Type 0 where
  pub script : Script
  pub at : slice_get scripts (place / terminal_count line) ≡ Some script
  pub held : IsHeldOver line script (place % terminal_count line) box

abbrev pub AreCovers : Line → List Cover → Type 0
AreCovers line covers = (j : ℕ) (cover : Cover) → slice_get covers j ≡ Some cover → IsCover line cover

-- the number of the cover in a lane; the lanes past the last cover repeat it
abbrev pub cover_in : ℕ → ℕ → ℕ
cover_in count lane = min lane (count - 1)

-- in each lane the span is the parameter's interval in the lane's cover
abbrev pub IsCoverSpan : Line → List Cover → ℕ → SpanLists → Type 0
IsCoverSpan line covers param span =
    (lane : ℕ) (cover : Cover) → lane < 64
    → slice_get covers (cover_in (length covers) lane) ≡ Some cover
    → span_ends span lane ≡ (box_of_cover line cover).ends param

-- a span for each parameter
pub record AreCoverSpans (line : Line) (covers : List Cover) (spans : List SpanLists)
    : Type 0 where
  pub count : length spans ≡ param_count line
  pub each : (param : ℕ) (span : SpanLists) → slice_get spans param ≡ Some span
      → IsCoverSpan line covers param span

-- each bit tells whether an obligation is held over the lane's cover
abbrev pub IsToldAt : Line → List Script → List Cover → ℕ → ℕ → Type 0
IsToldAt line scripts covers place bits =
    (lane : ℕ) (cover : Cover) → lane < 64
    → slice_get covers (cover_in (length covers) lane) ≡ Some cover
    → Decides (bit_on bits lane) (IsHeldAt line scripts (box_of_cover line cover) place)

-- of the first n obligations
pub record AreToldBelow (line : Line) (scripts : List Script) (covers : List Cover) (n : ℕ)
    (told : List ℕ) : Type 0 where
  pub count : length told ≡ n
  pub each : (place bits : ℕ) → slice_get told place ≡ Some bits
      → IsToldAt line scripts covers place bits

-- of all of them
abbrev pub AreTold : Line → List Script → List Cover → List ℕ → Type 0
AreTold line scripts covers told =
    AreToldBelow line scripts covers (length scripts * terminal_count line) told
