-- What a run under levels is.
use Rattle.run_signal.specs.Signals.{SignalOf}
use Rattle.std.specs.Prelude.{◌≡◌, ◌<◌, ℕ, Bool, List, Option, length}
use Rattle.model_history.specs.Rails.{Rails}
use Rattle.model_line.specs.Parameters.{param_count, terminal_count}
use Rattle.model_line.specs.{declared.line.Line.Line}
use Rattle.model_logic.specs.Choice.{LeastFromOne}
use Rattle.model_logic.specs.{Logic.key_tree, PairMean.PairSignals, PairMean.PairWorld, Tree.Tree}
use Rattle.model_settle.specs.Under.{pair_under, own_pair}
use Rattle.net_gates.specs.{NetOf.NetOf, Formulas.formula_of}
use Rattle.run_ticks.specs.cases.Given.{span_box}
use Rattle.run_ticks.specs.cases.Masks.{HaveRows, Levels, PutLevels, AreOfTimers}
use Rattle.run_ticks.specs.cases.UnderWaves.{UnderWavesOf, wave_pair, own_wave}
use Rattle.run_ticks.specs.declared.cases.mask.Masks.{Masks}

-- a run has a span for each parameter of the line that leaves every delay one tick at least, and
-- rows of masks for its net
pub record CanRunUnder {V S : Type 0} (signal : SignalOf V S) (line : Line) (net : NetOf)
    (spans : List S) (masks : Masks V) : Type 0 where
  pub one_each : length spans ≡ param_count line
  pub delayed : (lane : ℕ) → lane < signal.lanes
      → LeastFromOne line (span_box signal.ends line spans lane)
  pub rows : HaveRows (length net.gates) line.horizon masks

-- the masks put these levels, in place of timed elements alone
pub record PutUnder {V S : Type 0} (signal : SignalOf V S) (level : Levels) (line : Line)
    (net : NetOf) (masks : Masks V) : Type 0 where
  pub put : PutLevels signal level (formula_of net.gates) line.horizon masks
  pub timers : (lane : ℕ) → lane < signal.lanes → AreOfTimers (level lane)

-- each key is the pair of its tree under levels, over the keys themselves
abbrev pub AreKeysUnder : Line → (Tree → ℕ → Option Bool) → PairWorld → PairSignals → Type 0
AreKeysUnder line level w keys =
    (k t : ℕ) → k < terminal_count line → t < line.horizon
    → keys k t ≡ pair_under level w keys (key_tree line k) t

-- at each tick each gate has, over keys that are pairs of their trees under levels, the pair of its
-- tree, and its own pair
pub record ArePairsUnder {V : Type 0} (rails : V → ℕ → Rails) (lane : ℕ)
    (level : Tree → ℕ → Option Bool) (w : PairWorld) (keys : PairSignals) (line : Line)
    (net : NetOf) (waves : UnderWavesOf V) : Type 0 where
  pub pairs : (gate t : ℕ) → gate < length net.gates → t < line.horizon
      → wave_pair rails lane waves gate t ≡ pair_under level w keys (formula_of net.gates gate) t
  pub owns : (gate t : ℕ) → gate < length net.gates → t < line.horizon
      → own_wave rails lane waves gate t ≡ own_pair level w keys (formula_of net.gates gate) t
