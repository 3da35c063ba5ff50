-- Stretches of ticks through which nothing changes.
use Rattle.std.specs.Prelude.{◌≡◌, ◌<◌, ◌≤◌, ◌+◌, ◌-◌, ℕ, suc, List, Some, length, slice_get}
use Rattle.model_history.specs.Rails.{Rails, Ends, rails_delayed, rails_timed}
use Rattle.model_line.specs.Seen.{shows, loses, is_seen, is_lost}
use Rattle.model_line.specs.{declared.script.Place.Place, declared.script.SeenSpan.SeenSpan}
use Rattle.model_logic.specs.PairMean.{PairWorld, PairSignals}
use Rattle.net_gates.specs.declared.gate.Gate.{Gate}
use Rattle.net_gates.specs.declared.gate.Gate.TheVariants.{Const, Seen, Loss, Raw, Not, And, Or}
use Rattle.net_gates.specs.declared.gate.Gate.TheVariants.{Timer, Seal}
use Rattle.model_timing.specs.declared.step.Step.{Step}
use Rattle.run_step.specs.GatePairs.{GateSignals, kind_pair}

-- from tick t on the values of n ticks are equal
abbrev pub Keeps : {A : Type 0} → (ℕ → A) → ℕ → ℕ → Type 0
Keeps u t n = (r : ℕ) → t ≤ r → r < t + n → u r ≡ u t

-- ---- what gates rest on beside other gates

-- what a script shows of each place and loses of each channel
pub record ScriptKeeps (spans : List SeenSpan) (t n : ℕ) : Type 0 where
  pub seen : (p : Place) → Keeps (is_seen spans p) t n
  pub lost : (c : ℕ) → Keeps (is_lost spans c) t n

-- the same of one span
pub record SpanKeeps (t n : ℕ) (span : SeenSpan) : Type 0 where
  pub seen : (p : Place) → Keeps (λ r. shows p r span) t n
  pub lost : (c : ℕ) → Keeps (λ r. loses c r span) t n

-- the same of each of them
abbrev pub AllKeep : ℕ → ℕ → List SeenSpan → Type 0
AllKeep t n spans = (i : ℕ) (s : SeenSpan) → slice_get spans i ≡ Some s → SpanKeeps t n s

-- no step of the parameter comes within the stretch
abbrev pub NoStepIn : {P : Type 0} → List (Step P) → ℕ → ℕ → ℕ → Type 0
NoStepIn steps param t n = (i : ℕ) (step : _) → slice_get steps i ≡ Some step
    → step.param ≡ param → t < step.from → t + n ≤ step.from

-- what arrives within a delay's ends stays the same for as long as the key is held on: up to each
-- tick of the stretch, if the key before it is that at tick t from t on
abbrev pub ArrivalKeeps : (ℕ → Rails) → Ends → ℕ → ℕ → Type 0
ArrivalKeeps key ends t n =
    (j : ℕ) → j < n → Keeps key t j → rails_delayed key ends (t + j) ≡ rails_delayed key ends t

-- what was sent c ticks ago stays the same for as long as the key is held on
abbrev pub EndKeeps : (ℕ → Rails) → ℕ → ℕ → ℕ → Type 0
EndKeeps key c t n =
    (j : ℕ) → j < n → Keeps key t j
    → (t < c → t + j < c) × (c ≤ t → key (t + j - c) ≡ key (t - c))

-- a timer's answer stays the same for as long as its input does
abbrev pub TimerKeeps : PairWorld → GateSignals → ℕ → ℕ → Gate → Type 0
TimerKeeps w u t n (Const v) = Unit {0}
TimerKeeps w u t n (Seen p) = Unit {0}
TimerKeeps w u t n (Loss c) = Unit {0}
TimerKeeps w u t n (Raw c) = Unit {0}
TimerKeeps w u t n (Not a) = Unit {0}
TimerKeeps w u t n (And a b) = Unit {0}
TimerKeeps w u t n (Or a b) = Unit {0}
TimerKeeps w u t n (Timer a p d) =
    (j : ℕ) → j < n → Keeps (u a.0) t (suc j)
    → rails_timed (u a.0) (w.time p) (w.time d) (t + j)
    ≡ rails_timed (u a.0) (w.time p) (w.time d) t
TimerKeeps w u t n (Seal a b) = Unit {0}

-- each source of a change is quiet from tick t on for n ticks
pub record SourcesKeep (w : PairWorld) (keys : PairSignals) (u : GateSignals) (channels : ℕ)
    (gates : List Gate) (t n : ℕ) : Type 0 where
  pub seen : (p : Place) → Keeps (w.seen p) t n
  pub lost : (c : ℕ) → Keeps (w.lost c) t n
  pub delays : (c : ℕ) → c < channels → Keeps (w.delay c) t n
  pub arrivals : (c : ℕ) → c < channels → ArrivalKeeps (keys (w.from c)) (w.delay c t) t n
  pub timers : (i : ℕ) (g : Gate) → slice_get gates i ≡ Some g → TimerKeeps w u t n g

-- the pairs u of the gates are at each tick their kinds over u itself, and the keys are those of
-- some of the gates up to the horizon
pub record AreGatePairs (w : PairWorld) (keys : PairSignals) (u : GateSignals) (channels horizon : ℕ)
    (gates : List Gate) : Type 0 where
  pub told : (t i : ℕ) (g : Gate) → slice_get gates i ≡ Some g → u i t ≡ kind_pair w keys u g t
  pub key_gate : ℕ → ℕ
  pub there : (c : ℕ) → c < channels → key_gate c < length gates
  pub keys_are : (c t : ℕ) → c < channels → t < horizon → keys (w.from c) t ≡ u (key_gate c) t
