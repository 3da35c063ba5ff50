-- What is asked of ends, 64 side by side, and what is told.
use Rattle.std.specs.Prelude.{◌≡◌, ◌≤◌, ◌<◌, ◌+◌, ◌-◌, ◌*◌, ℕ, List, Some, Option, MatchOption}
use Rattle.std.specs.Prelude.{Decides, length, min, slice_get, true, false}
use Rattle.run_signal.specs.Bits.{bit_on}
use Rattle.model_line.specs.{declared.line.Line.Line, Parameters.param_count}
use Rattle.model_logic.specs.Choice.{Box}
use Rattle.judge_verdict.specs.boxes.Spans.{SpanLists, span_ends}
use Rattle.judge_report.specs.declared.upper_end.Lost.{Lost}
use Rattle.judge_margins.specs.{declared.margins.ask.Ask.Ask, declared.margins.group.Group.Group, margins.Each.OneForEach}
use Rattle.judge_margins.specs.{margins.Groups.AllKept, margins.Groups.IsFirstOf, margins.Kept.IsKept}
use Rattle.judge_margins.specs.margins.Widened.{param_at, room, side_at, widened}

-- the box that is asked about
abbrev pub ask_box : Line → Ask → Box
ask_box line ask = widened line (param_at ask.place) (side_at ask.place) ask.by

-- there is such an end, and room to move it
pub record IsAsk (line : Line) (ask : Ask) : Type 0 where
  pub place : ask.place < 2 * param_count line
  pub by : ask.by ≤ room line (param_at ask.place) (side_at ask.place)

abbrev pub AreAsks : Line → List Ask → Type 0
AreAsks line asks = (j : ℕ) (ask : Ask) → slice_get asks j ≡ Some ask → IsAsk line ask

-- the number of the ask in a lane of the block that begins with ask `first`; the lanes past the
-- last ask repeat it
abbrev pub ask_in : ℕ → ℕ → ℕ → ℕ
ask_in count first lane = min (first + lane) (count - 1)

-- in each lane the span is the parameter's interval in the box of the lane's ask
abbrev pub IsAskSpan : Line → List Ask → ℕ → ℕ → SpanLists → Type 0
IsAskSpan line asks first param span =
    (lane : ℕ) (ask : Ask) → lane < 64
    → slice_get asks (ask_in (length asks) first lane) ≡ Some ask
    → span_ends span lane ≡ (ask_box line ask).ends param

-- a span for each parameter
pub record AreAskSpans (line : Line) (asks : List Ask) (first : ℕ) (spans : List SpanLists)
    : Type 0 where
  pub count : length spans ≡ param_count line
  pub each : (param : ℕ) (span : SpanLists) → slice_get spans param ≡ Some span
      → IsAskSpan line asks first param span

-- each bit tells whether an obligation is held over the box of the lane's ask
abbrev pub IsRow : Group → List Ask → ℕ → Lost → ℕ → Type 0
IsRow of asks first o bits =
    (lane : ℕ) (ask : Ask) → lane < 64
    → slice_get asks (ask_in (length asks) first lane) ≡ Some ask
    → Decides (bit_on bits lane) (IsKept of.compiled.line.now of.scripts.now
    (ask_box of.compiled.line.now ask) o)

-- a row for each of the first n obligations
abbrev pub AreRows : Group → List Ask → ℕ → ℕ → List ℕ → Type 0
AreRows of asks first n rows = OneForEach (λ _ o bits. IsRow of asks first o bits) of.these.now rows n

-- the first n rows are on in a lane
pub record AreOn (rows : List ℕ) (lane n : ℕ) : Type 0 where
  pub each : (i bits : ℕ) → i < n → slice_get rows i ≡ Some bits → bit_on bits lane ≡ true

-- the obligation whose row is the first that is off
pub record IsFirstOff (these : List Lost) (rows : List ℕ) (lane : ℕ) (o : Lost) : Type 0 where
  pub place : ℕ
  pub bits : ℕ
  pub row : slice_get rows place ≡ Some bits
  pub off : bit_on bits lane ≡ false
  pub at : slice_get these place ≡ Some o
  pub before : AreOn rows lane place

abbrev pub TellsOff : List Lost → List ℕ → ℕ → Option Lost → Type 0
TellsOff these rows lane told =
    MatchOption told (AreOn rows lane (length rows)) (λ o. IsFirstOff these rows lane o)

-- of an ask it is told which obligation is lost first, or that all are held
abbrev pub IsTold : Group → Ask → Option Lost → Type 0
IsTold of ask told =
    MatchOption told (AllKept of (ask_box of.compiled.line.now ask))
    (λ o. IsFirstOf of (ask_box of.compiled.line.now ask) o)

-- so of each of the first n
abbrev pub AreTold : Group → List Ask → List (Option Lost) → ℕ → Type 0
AreTold of asks told n = OneForEach (λ _ ask t. IsTold of ask t) asks told n
