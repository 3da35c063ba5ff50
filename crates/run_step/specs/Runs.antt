-- What a run is: in each lane the interval history over the lane's box, gate by gate.
use Rattle.run_signal.specs.Signals.{SignalOf}
use Rattle.std.specs.Prelude.{◌≡◌, ◌<◌, ℕ, List, IsTrue, length}
use Rattle.model_history.specs.Rails.{Rails, Covers, single}
use Rattle.model_line.specs.Parameters.{param_count, channel_count}
use Rattle.model_line.specs.{declared.script.Script.Script, declared.line.Line.Line}
use Rattle.model_logic.specs.Choice.{Choice, Box, IsWithin, LeastFromOne, world_of, pair_world_of}
use Rattle.model_logic.specs.Histories.{History, IsLineHistory, PairHistory, IsPairHistory}
use Rattle.model_logic.specs.Histories.{IsSamePairHistory, IsBothRails, CoversHistory, must_history}
use Rattle.model_logic.specs.{Mean.mean, PairMean.pair_mean}
use Rattle.net_gates.specs.{NetOf.NetOf, Formulas.formula_of}
use Rattle.model_timing.specs.{declared.step.Step.Step, Timing.ascend}
use Rattle.run_step.specs.{declared.run.Run.Run, LaneBox.lane_box}
use Rattle.run_step.specs.WavesOf.{WavesOf, wave_pair, waves_history}

-- in each lane each channel's delay is at least 1, at every tick
abbrev pub AreDelayed : {V S : Type 0} → SignalOf V S → Line → List S → List (Step S) → Type 0
AreDelayed signal line spans steps =
    (lane : ℕ) → lane < signal.lanes
    → LeastFromOne line (lane_box signal.ends line spans steps lane)

-- a run has a span for each parameter of the line, and steps in order that leave every delay one
-- tick at least
pub record CanRun {V S : Type 0} (signal : SignalOf V S) (run : Run S) : Type 0 where
  pub ascending : IsTrue (ascend run.steps.now)
  pub delayed : AreDelayed signal run.compiled.now.line.now run.spans.now run.steps.now
  pub one_each : length run.spans.now ≡ param_count run.compiled.now.line.now

-- the waves are of the net and reach to the horizon
pub record AreWavesOf {V : Type 0} (net : NetOf) (line : Line) (waves : WavesOf V) : Type 0 where
  pub width : waves.width ≡ length net.gates
  pub horizon : waves.horizon ≡ line.horizon
  pub keys : waves.keys ≡ net.keys
  pub trips : waves.trips ≡ net.trips

-- at each tick each gate has the pair that the interval rules give its tree over the box and the
-- waves' own keys
abbrev pub HavePairs : {V : Type 0} → (V → ℕ → Rails) → ℕ → Line → Script → Box → NetOf → WavesOf V
    → Type 0
HavePairs rails lane line script box net waves =
    (gate t : ℕ) → gate < length net.gates → t < line.horizon
    → wave_pair rails lane waves gate t
    ≡ pair_mean (pair_world_of line script box) (waves_history rails lane waves).key
    (formula_of net.gates gate) t

-- w is the interval history over the box, and there is no other
pub record IsTheHistory (line : Line) (script : Script) (box : Box) (w : PairHistory) : Type 0 where
  pub is : IsPairHistory line script box w
  pub only : (others : PairHistory) → IsPairHistory line script box others
      → IsSamePairHistory line w others

-- the waves cover the history of each choice within the box: each key, each trip and the value of
-- each gate's tree
pub record CoverChoices {V : Type 0} (rails : V → ℕ → Rails) (lane : ℕ) (line : Line)
    (script : Script) (box : Box) (net : NetOf) (waves : WavesOf V) : Type 0 where
  pub histories : (choice : Choice) (h : History) → IsWithin line choice box
      → IsLineHistory line script choice h → CoversHistory line (waves_history rails lane waves) h
  pub gates : (choice : Choice) (h : History) → IsWithin line choice box
      → IsLineHistory line script choice h
      → (gate t : ℕ) → gate < length net.gates → t < line.horizon
      → Covers (wave_pair rails lane waves gate t)
      (mean (world_of line script choice) h.key (formula_of net.gates gate) t)

-- the box holds one choice alone: each interval of the line's is the choice's number
pub record IsPoint (line : Line) (box : Box) (choice : Choice) : Type 0 where
  pub numbers : (i : ℕ) → i < param_count line → box.ends i ≡ single (choice.number i)
  pub delays : (c t : ℕ) → c < channel_count line → t < line.horizon
      → box.delay c t ≡ single (choice.delay c t)

-- w is, on both rails, the history at the choice
pub record IsExactAt (line : Line) (script : Script) (choice : Choice) (w : PairHistory)
    : Type 0 where
  pub is : IsLineHistory line script choice (must_history w)
  pub both : IsBothRails line w (must_history w)
