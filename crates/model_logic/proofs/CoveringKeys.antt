-- Over keys that cover a history the pair of each tree covers the tree's value.
use Rattle.std.proofs.Common.{◌<◌, ℕ, subst}
use Rattle.model_history.specs.{Laws.HistoryLaws, Rails.Rails, Rails.Covers, Rails.RailsCover}
use Rattle.model_logic.specs.Choice.{Choice, Box, IsWithin, LeastFromOne, point_box, world_of}
use Rattle.model_logic.specs.Choice.{pair_world_of}
use Rattle.model_logic.specs.Mean.{Signals, mean}
use Rattle.model_logic.specs.PairMean.{PairSignals, pair_mean}
use Rattle.model_logic.specs.{Names.Names, Tree.Tree}
use Rattle.model_line.specs.{declared.line.Line.Line, declared.script.Script.Script}
use Rattle.model_line.specs.Parameters.{terminal_count}
use Rattle.model_logic.proofs.BoxLaws.{wider_world, point_within}
use Rattle.model_logic.proofs.CoverLaws.{pair_mean-wider}
use Rattle.model_logic.proofs.HistoryLaws.{point_mean}
use Rattle.model_logic.proofs.PlainLaws.{lifted}
use Rattle.model_logic.specs.BoxLaws.{pair_world_delayed}

module _ (laws : HistoryLaws) where
  pub covering_keys : (line : Line) (script : Script) (box : Box) (choice : Choice)
      (keys : PairSignals) (plain : Signals) (t : ℕ) → LeastFromOne line box
      → IsWithin line choice box
      → ((k r : ℕ) → k < terminal_count line → r < t → Covers (keys k r) (plain k r))
      → (x : Tree) → t < line.horizon → Names line x
      → Covers (pair_mean (pair_world_of line script box) keys x t)
      (mean (world_of line script choice) plain x t)
  covering_keys line script box choice keys plain t d within cover x lt named =
      (laws.covering.exact (pair_mean (pair_world_of line script box) keys x t)
      (mean (world_of line script choice) plain x t)).0
      (subst
      (λ (y : Rails). RailsCover (pair_mean (pair_world_of line script box) keys x t) y)
      (point_mean laws line script choice plain x t lt named)
      (pair_mean-wider laws line (pair_world_of line script box)
      (pair_world_of line script (point_box choice))
      (wider_world line script (point_box choice) box (point_within line choice box within))
      (pair_world_delayed line script box d) keys (lifted plain) x t lt named
      (λ k r kn before. (laws.covering.exact (keys k r) (plain k r)).1 (cover k r kn before))))
