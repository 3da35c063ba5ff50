-- What a run over two scripts is over.
use Rattle.std.specs.Prelude.{◌≡◌, ◌≤◌, ◌<◌, ℕ, List, length, get_or, IsTrue}
use Rattle.model_history.specs.Rails.{Ends, single}
use Rattle.model_line.specs.Parameters.{channel_count, param_count, delay_param}
use Rattle.model_line.specs.Seen.{is_seen, is_lost}
use Rattle.model_line.specs.{declared.line.Line.Line, declared.script.Place.Place}
use Rattle.model_logic.specs.{Choice.Box, PairMean.PairWorld}
use Rattle.net_gates.specs.{NetOf.NetOf}
use Rattle.model_fine.specs.Loose.{loose_world_of}
use Rattle.run_borders.specs.declared.run.LooseRun.{LooseRun}

-- the box of an interval for each parameter: each delay is within its own at every tick
unfoldable pub steady_box : Line → List Ends → Box
steady_box line spans = record {
  ends = λ i. get_or spans i (single 0);
  delay = λ c t. get_or spans (delay_param line c) (single 0);
}

abbrev pub line_of : LooseRun → Line
line_of run = run.compiled.now.line.now

abbrev pub net_of : LooseRun → NetOf
net_of run = run.compiled.now.net.now

abbrev pub box_of : LooseRun → Box
box_of run = steady_box (line_of run) run.spans.now

-- the line over its box and its two scripts
abbrev pub world_of : LooseRun → PairWorld
world_of run = loose_world_of (line_of run) run.certain.now run.perhaps.now (box_of run)

-- a run has an interval for each parameter, each delay is one tick at least, and what is shown for certain
-- is perhaps shown
pub record CanRun (run : LooseRun) : Type 0 where
  pub one_each : length run.spans.now ≡ param_count (line_of run)
  pub delayed : (c : ℕ) → c < channel_count (line_of run)
      → 1 ≤ (get_or run.spans.now (delay_param (line_of run) c) (single 0)).least
  pub seen : (p : Place) (t : ℕ) → IsTrue (is_seen run.certain.now.spans.items p t)
      → IsTrue (is_seen run.perhaps.now.spans.items p t)
  pub lost : (c t : ℕ) → IsTrue (is_lost run.certain.now.spans.items c t)
      → IsTrue (is_lost run.perhaps.now.spans.items c t)
