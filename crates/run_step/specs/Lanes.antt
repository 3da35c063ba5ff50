-- What a lane is over.
use Rattle.std.specs.Prelude.{ℕ}
use Rattle.model_history.specs.Rails.{Ends}
use Rattle.model_logic.specs.PairMean.{PairWorld, PairSignals}
use Rattle.model_logic.specs.{Logic.key_tree, Solution.the_keys}
use Rattle.model_line.specs.declared.script.Script.{Script}
use Rattle.run_step.specs.{GatePairs.GateSignals, GatePairs.line_pairs, declared.run.Run.Run}
use Rattle.run_step.specs.LaneBox.{lane_box, lane_world}

-- a line and its script over the lane's box, with the pairs of the keys and of the gates
pub record LanePairs : Type 0 where
  pub world : PairWorld
  pub keys : PairSignals
  pub pairs : GateSignals

-- a line and its script over a lane's box, with the pairs of the interval history
abbrev pub line_lane : {S : Type 0} → (S → ℕ → Ends) → Run S → Script → ℕ → LanePairs
line_lane ends run script lane =
    let line = run.compiled.now.line.now in
    let w = lane_world ends line script run.spans.now run.steps.now lane in
    record {
      world = w;
      keys = the_keys w (key_tree line);
      pairs = line_pairs line script (lane_box ends line run.spans.now run.steps.now lane)
          run.compiled.now.net.now;
    }
