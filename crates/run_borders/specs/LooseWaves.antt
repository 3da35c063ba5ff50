-- What a run over two scripts gives.
use Rattle.std.specs.Prelude.{◌≡◌, ◌<◌, ◌≤◌, ℕ, List, [], length, get_or}
use Rattle.model_history.specs.Rails.{Rails}
use Rattle.run_signal.specs.declared.tern.Tern.{Tern}
use Rattle.model_line.specs.declared.script.What.{What}
use Rattle.model_line.specs.Parameters.{terminal_count}
use Rattle.model_logic.specs.PairMean.{PairSignals, pair_mean}
use Rattle.model_logic.specs.{Choice.Choice, Histories.History, Histories.PairHistory}
use Rattle.net_gates.specs.{Formulas.formula_of, NetOf.NetOf}
use Rattle.net_gates.specs.NetOf.{key_of, trip_of}
use Rattle.model_fine.specs.Fine.{IsFineWithin}
use Rattle.model_fine.specs.Loose.{Shown, IsBetween, IsLooseHistory, IsShownHistory}
use Rattle.run_waves.specs.waves.Waves.{IsWaveOf}
use Rattle.run_waves.specs.derived.{Stretches.holds, Claims.pairs_of}
use Rattle.run_borders.specs.declared.run.LooseRun.{LooseRun}
use Rattle.run_borders.specs.LooseRuns.{line_of, net_of, box_of, world_of}

-- whether an element is seen, or a channel lost, at a tick: for certain, and perhaps
abbrev pub shown_rails : LooseRun → What → ℕ → Rails
shown_rails run what t = record {
  must = holds run.certain.now.spans.items what t;
  may = holds run.perhaps.now.spans.items what t;
}

-- a wave for each gate: at each tick it has the pair that the interval rules give the gate's tree, where
-- the keys that are read are these
pub record AreGateWaves (run : LooseRun) (keys : PairSignals) (waves : List (List Tern))
    : Type 0 where
  pub many : length waves ≡ length (net_of run).gates
  pub each : (gate : ℕ) → gate < length (net_of run).gates
      → IsWaveOf (get_or waves gate []) (line_of run).horizon
      (λ t. pair_mean (world_of run) keys (formula_of (net_of run).gates gate) t)

-- the waves of the gates of all keys, in the order of the terminals
pub record AreKeysOf (net : NetOf) (waves keys : List (List Tern)) : Type 0 where
  pub many : length keys ≡ length net.keys
  pub each : (k : ℕ) → k < length net.keys
      → get_or keys k [] ≡ get_or waves (key_of net k) []

-- the wave of a terminal's key, and of its trip, tick by tick
abbrev pub key_wave : LooseRun → List (List Tern) → PairSignals
key_wave run waves k t = pairs_of waves (key_of (net_of run) k) t

abbrev pub trip_wave : LooseRun → List (List Tern) → PairSignals
trip_wave run waves k t = pairs_of waves (trip_of (net_of run) k) t

-- the keys are at each tick before t what is derived from them
abbrev pub AreRightBefore : LooseRun → PairSignals → List (List Tern) → ℕ → Type 0
AreRightBefore run keys waves t = (k r : ℕ) → k < terminal_count (line_of run) → r < t
    → keys k r ≡ key_wave run waves k r

-- the waves of an interval history over the two scripts: of each gate, and so of each key and each trip
pub record AreLooseWaves (run : LooseRun) (waves : List (List Tern)) : Type 0 where
  pub history : PairHistory
  pub is : IsLooseHistory (line_of run) run.certain.now run.perhaps.now (box_of run) history
  pub gates : AreGateWaves run history.key waves
  pub keys : (k t : ℕ) → k < terminal_count (line_of run) → t < (line_of run).horizon
      → key_wave run waves k t ≡ history.key k t
  pub trips : (k t : ℕ) → k < terminal_count (line_of run) → t < (line_of run).horizon
      → trip_wave run waves k t ≡ history.trip k t

-- of every fine history of every fine choice within the box, under whatever is shown between the two scripts
abbrev pub ForEachShownHistory : LooseRun → (ℕ → History → Type 0) → Type 0
ForEachShownHistory run Fact =
    (n : ℕ) (shown : Shown) (choice : Choice) (h : History) → 1 ≤ n
    → IsBetween n (line_of run) run.certain.now run.perhaps.now (box_of run) shown
    → IsFineWithin n (line_of run) choice (box_of run) → IsShownHistory n (line_of run) shown choice h
    → Fact n h
