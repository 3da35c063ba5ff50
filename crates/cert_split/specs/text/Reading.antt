-- Split trees as they are read.
use Rattle.std.specs.Prelude.{◌≡◌, ◌≤◌, ◌++◌, ℕ, List, [], ◌∷◌, map, Vec}
use Rattle.std.specs.declared.alloc.Global.{Global}
use Rattle.model_line.specs.declared.line.Line.{Line}
use Rattle.model_logic.specs.Choice.{Box}
use Rattle.base_text.specs.lines.Grammar.{Reads}
use Rattle.judge_split.specs.declared.node.Node.{Node}
use Rattle.judge_split.specs.{Trees.SplitTree, Trees.preorder, Trees.height, Leaves.Splits}
use Rattle.cert_split.specs.declared.text.claim.SplitClaim.{SplitClaim}
use Rattle.cert_split.specs.declared.text.claim.SplitClaim.TheVariants as claim
use Rattle.cert_split.specs.text.Grammar.{SplitResult, tree, fails, Place, says_node, grammar_of}
use Rattle.cert_split.specs.text.Grammar.{node_over, below}

-- a result as the reader answers it, and those of a script
abbrev pub result_in : SplitClaim → SplitResult
result_in (claim.Tree nodes) = tree nodes.items
result_in (claim.Fails numbers) = fails numbers.items

abbrev pub results_in : Vec SplitClaim Global → List SplitResult
results_in claims = map result_in claims.items

-- lines were read that are below a node: with them it is a tree
pub record IsBelow (line : Line) (n : ℕ) (box : Box) (root : Node) (old new : List Node)
    (text : List ℕ) (first : ℕ) (later : List Place) (rest : List ℕ) (next : ℕ) : Type 0 where
  pub tree : SplitTree
  pub more : List Node
  pub is : preorder tree ≡ root ∷ more
  pub nodes : new ≡ old ++ preorder tree
  pub splits : Splits line box tree
  pub low : height tree ≤ n
  pub reads : Reads (grammar_of line) (below n box root) (map says_node more) later text first rest next

-- lines were read of a tree over this box
pub record IsOver (line : Line) (n : ℕ) (box : Box) (old new : List Node)
    (text : List ℕ) (first : ℕ) (later : List Place) (rest : List ℕ) (next : ℕ) : Type 0 where
  pub tree : SplitTree
  pub nodes : new ≡ old ++ preorder tree
  pub splits : Splits line box tree
  pub low : height tree ≤ n
  pub reads : Reads (grammar_of line) (node_over n box ∷ []) (map says_node (preorder tree)) later
      text first rest next
