-- What a net is given at a tick: what its script shows and loses, and its delays.
use Rattle.run_signal.specs.Signals.{SignalOf}
use Rattle.std.specs.Prelude.{◌≡◌, ◌≤◌, ◌<◌, ◌&&◌, ℕ, Bool, List, Some, length, slice_get}
use Rattle.std.specs.Prelude.{nat_le, nat_lt}
use Rattle.std.specs.List.{filter}
use Rattle.model_history.specs.Rails.{Ends, both}
use Rattle.model_line.specs.Seen.{is_seen, is_lost}
use Rattle.model_line.specs.Parameters.{channel_count, terminal_count, delay_param}
use Rattle.model_line.specs.{declared.line.Line.Line, declared.script.Place.Place}
use Rattle.model_line.specs.{declared.script.SeenSpan.SeenSpan, Channels.from_of}
use Rattle.model_logic.specs.{Boxes.box_of, Choice.Box, PairMean.PairWorld}
use Rattle.run_step.specs.LaneBox.{own_ends}
use Rattle.run_ticks.specs.declared.cases.delays.Delay.{Delay}

-- the span holds the tick
abbrev pub holds : ℕ → SeenSpan → Bool
holds t s = nat_le s.from t && nat_lt t s.to

-- the spans that hold the tick
abbrev pub spans_at : ℕ → List SeenSpan → List SeenSpan
spans_at t spans = filter (holds t) spans

-- a lane's box: each parameter has the ends of its span, and each delay those of its parameter's at
-- every tick
abbrev pub span_box : {S : Type 0} → (S → ℕ → Ends) → Line → List S → ℕ → Box
span_box ends line spans lane = box_of line (own_ends ends lane spans)

-- a delay for each channel of the line, with who sends and with its parameter's span
pub record AreDelays {S : Type 0} (line : Line) (spans : List S) (delays : List (Delay S))
    : Type 0 where
  pub count : length delays ≡ channel_count line
  pub from : (c : ℕ) (d : Delay S) → slice_get delays c ≡ Some d
      → d.from ≡ from_of line.channels.items c
  pub span : (c : ℕ) (d : Delay S) → slice_get delays c ≡ Some d
      → slice_get spans (delay_param line c) ≡ Some d.span

-- in a lane, at tick t, the delays are those of the world
pub record AreDelaysOf {S : Type 0} (ends : S → ℕ → Ends) (lane : ℕ) (delays : List (Delay S))
    (w : PairWorld) (t : ℕ) : Type 0 where
  pub from : (c : ℕ) (d : Delay S) → slice_get delays c ≡ Some d → d.from ≡ w.from c
  pub delay : (c : ℕ) (d : Delay S) → slice_get delays c ≡ Some d
      → ends d.span lane ≡ w.delay c t

-- and so is what the present spans show and lose
pub record IsWorldAt {S : Type 0} (ends : S → ℕ → Ends) (lane : ℕ) (present : List SeenSpan)
    (delays : List (Delay S)) (w : PairWorld) (t : ℕ) : Type 0 where
  pub seen : (p : Place) → both (is_seen present p t) ≡ w.seen p t
  pub lost : (c : ℕ) → both (is_lost present c t) ≡ w.lost c t
  pub channels : AreDelaysOf ends lane delays w t

-- what is sent can be received: each delay is of a terminal, and at least 1 in each lane
pub record CanReceive {V S : Type 0} (signal : SignalOf V S) (line : Line)
    (delays : List (Delay S)) : Type 0 where
  pub count : length delays ≡ channel_count line
  pub from : (c : ℕ) (d : Delay S) → slice_get delays c ≡ Some d → d.from < terminal_count line
  pub later : (c : ℕ) (d : Delay S) → slice_get delays c ≡ Some d
      → (lane : ℕ) → lane < signal.lanes → 1 ≤ (signal.ends d.span lane).least
