-- What a net is given from outside: what its script shows and loses, and its delays.
use Rattle.run_signal.specs.Signals.{SignalOf}
use Rattle.std.specs.Prelude.{◌≡◌, ◌<◌, ◌≤◌, ℕ, List, Some, length, slice_get}
use Rattle.model_history.specs.Rails.{Ends, both}
use Rattle.model_line.specs.Parameters.{terminal_count, channel_count, param_count, delay_param}
use Rattle.model_line.specs.Seen.{is_seen, is_lost}
use Rattle.model_line.specs.{declared.line.Line.Line, declared.script.Place.Place}
use Rattle.model_line.specs.{declared.script.SeenSpan.SeenSpan, Channels.from_of}
use Rattle.model_logic.specs.PairMean.{PairWorld}
use Rattle.run_step.specs.{declared.delays.Delay.Delay, declared.run.Run.Run, LaneBox.ends_at}

-- a delay for each channel of the line, with who sends and with its parameter
pub record AreDelays {S : Type 0} (line : Line) (delays : List (Delay S)) : Type 0 where
  pub count : length delays ≡ channel_count line
  pub from : (c : ℕ) (d : Delay S) → slice_get delays c ≡ Some d
      → d.from ≡ from_of line.channels.items c
  pub param : (c : ℕ) (d : Delay S) → slice_get delays c ≡ Some d → d.param ≡ delay_param line c
  pub there : (c : ℕ) (d : Delay S) → slice_get delays c ≡ Some d → d.param < param_count line

-- from tick t until a tick the delay has the span that its parameter has
abbrev pub DelayHolds : {S : Type 0} → (S → ℕ → Ends) → Run S → Delay S → ℕ → ℕ → Type 0
DelayHolds ends run delay t until =
    (lane r : ℕ) → t ≤ r → r < until
    → ends delay.span lane ≡ ends_at ends lane run.spans.now run.steps.now delay.param r

-- a delay's number of ticks before which nothing arrives: at least 1, and no more than a delay of any
-- lane, where each is at least 1
pub record IsSoonest {V S : Type 0} (signal : SignalOf V S) (delay : Delay S) : Type 0 where
  pub some : 1 ≤ delay.soonest
  pub limited : delay.soonest ≤ 4000
  pub before : (lane : ℕ) → lane < signal.lanes → 1 ≤ (signal.ends delay.span lane).least
      → delay.soonest ≤ (signal.ends delay.span lane).least

-- so it is of each delay
abbrev pub AreSoonest : {V S : Type 0} → SignalOf V S → List (Delay S) → Type 0
AreSoonest signal delays =
    (c : ℕ) (d : Delay _) → slice_get delays c ≡ Some d → IsSoonest signal d

-- from tick t on the delay has its parameter's span until it may be another one
pub record DelayStands {V S : Type 0} (signal : SignalOf V S) (run : Run S) (t : ℕ)
    (delay : Delay S) : Type 0 where
  pub holds : DelayHolds signal.ends run delay t delay.until
  pub soonest : t < delay.until → IsSoonest signal delay

-- so it is of each channel's delay
abbrev pub DelaysStand : {V S : Type 0} → SignalOf V S → Run S → ℕ
    → List (Delay S) → Type 0
DelaysStand signal run t delays =
    (c : ℕ) (d : Delay _) → slice_get delays c ≡ Some d → DelayStands signal run t d

-- none of the delays is over at tick t
abbrev pub AreSet : {S : Type 0} → ℕ → List (Delay S) → Type 0
AreSet t delays = (c : ℕ) (d : Delay _) → slice_get delays c ≡ Some d → t < d.until

-- none of them is over before a tick
abbrev pub AreSetUntil : {S : Type 0} → ℕ → List (Delay S) → Type 0
AreSetUntil until delays = (c : ℕ) (d : Delay _) → slice_get delays c ≡ Some d → until ≤ d.until

-- in a lane, at tick t, the delays are those of the world
pub record AreDelaysOf {S : Type 0} (ends : S → ℕ → Ends) (lane : ℕ) (delays : List (Delay S))
    (w : PairWorld) (t : ℕ) : Type 0 where
  pub from : (c : ℕ) (d : Delay S) → slice_get delays c ≡ Some d → d.from ≡ w.from c
  pub delay : (c : ℕ) (d : Delay S) → slice_get delays c ≡ Some d
      → ends d.span lane ≡ w.delay c t

-- from tick t on they are, each until it may be another one
pub record AreDelaysFrom {S : Type 0} (ends : S → ℕ → Ends) (lane : ℕ) (delays : List (Delay S))
    (w : PairWorld) (t : ℕ) : Type 0 where
  pub from : (c : ℕ) (d : Delay S) → slice_get delays c ≡ Some d → d.from ≡ w.from c
  pub delay : (c : ℕ) (d : Delay S) → slice_get delays c ≡ Some d
      → (r : ℕ) → t ≤ r → r < d.until → ends d.span lane ≡ w.delay c r

-- and so is what the present spans show and lose
pub record IsWorldAt {S : Type 0} (ends : S → ℕ → Ends) (lane : ℕ) (present : List SeenSpan)
    (delays : List (Delay S)) (w : PairWorld) (t : ℕ) : Type 0 where
  pub seen : (p : Place) → both (is_seen present p t) ≡ w.seen p t
  pub lost : (c : ℕ) → both (is_lost present c t) ≡ w.lost c t
  pub channels : AreDelaysOf ends lane delays w t

-- what is sent can be received: each delay is of a terminal, and at least 1 in each lane
pub record CanReceive {V S : Type 0} (signal : SignalOf V S) (line : Line)
    (delays : List (Delay S)) : Type 0 where
  pub count : length delays ≡ channel_count line
  pub from : (c : ℕ) (d : Delay S) → slice_get delays c ≡ Some d → d.from < terminal_count line
  pub later : (c : ℕ) (d : Delay S) → slice_get delays c ≡ Some d
      → (lane : ℕ) → lane < signal.lanes → 1 ≤ (signal.ends d.span lane).least
