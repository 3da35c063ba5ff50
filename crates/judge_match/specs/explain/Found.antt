-- What a search finds over a part.
use Rattle.std.specs.Prelude.{◌≡◌, ℕ, List}
use Rattle.model_history.specs.Rails.{Ends}
use Rattle.model_line.specs.{declared.line.Line.Line, declared.script.Script.Script}
use Rattle.model_logic.specs.Histories.{History}
use Rattle.model_timing.specs.Timing.{TimingValues}
use Rattle.judge_match.specs.explain.Explains.{Explains, IsSteadyInside}
use Rattle.judge_match.specs.explain.Parts.{PartTree, AreExcluded, preorder}
use Rattle.judge_match.specs.declared.explain.tree.PartNode.{PartNode}
use Rattle.judge_match.specs.declared.explain.search.{Found.Found, Look.Look}
use Rattle.judge_match.specs.declared.explain.search.Found.TheVariants as found
use Rattle.judge_match.specs.declared.explain.search.Look.TheVariants as look

-- a timing inside, without steps, that explains the record
pub record IsExplaining (line : Line) (script : Script) (within : ℕ) (recorded : History)
    (timing : TimingValues) : Type 0 where
  pub inside : IsSteadyInside line timing
  pub explains : Explains line script within recorded timing

-- the nodes are those of a tree over the part whose leaves are excluded
pub record AreNodesOver (line : Line) (script : Script) (within : ℕ) (recorded : History)
    (part : List Ends) (nodes : List PartNode) : Type 0 where
  pub tree : PartTree
  pub are : nodes ≡ preorder tree
  pub excluded : AreExcluded line script within recorded part tree

abbrev pub IsFound : Line → Script → ℕ → History → List Ends → Found → Type 0
IsFound line script within recorded part (found.Explained timing) =
    IsExplaining line script within recorded timing
IsFound line script within recorded part (found.Excluded nodes) =
    AreNodesOver line script within recorded part nodes.items
IsFound line script within recorded part found.Open = Unit {0}

-- what a look finds
abbrev pub IsLookOf : Line → Script → ℕ → History → List Ends → Look → Type 0
IsLookOf line script within recorded part (look.Found found) =
    IsFound line script within recorded part found
IsLookOf line script within recorded part (look.Planned cuts) = Unit {0}
