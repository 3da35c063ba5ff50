-- Trees printed one after another.
use Rattle.std.proofs.Common.{◌≡◌, ℕ, List, [], ◌∷◌, ◌++◌}
use Rattle.std.proofs.Common.{sym, subst, append_assoc}
use Rattle.std.proofs.lemmas.List.Elements.{All-nil, All-cons, All-append}
use Rattle.std.specs.List.{All}
use Rattle.model_line.specs.{declared.line.Line.Line}
use Rattle.model_logic.specs.Choice.{Box}
use Rattle.cert_claims.specs.text.Text.{fed}
use Rattle.judge_split.specs.declared.node.Node.{Node}
use Rattle.judge_split.specs.declared.node.Node.TheVariants as node
use Rattle.judge_split.specs.Trees.{SplitTree, Yes, Undecided, Split, preorder}
use Rattle.judge_split.specs.Leaves.{Splits}
use Rattle.model_logic.specs.Boxes.{lower_half, upper_half}
use Rattle.cert_split.specs.text.Grammar.{SplitResult, tree_text, AreTree}
use Rattle.cert_split.specs.text.Text.{IsNodeOfLine, result_text, trees_text}

-- the splits of a tree that splits a box name parameters
known_preorder : (line : Line) (box : Box) (t : SplitTree) → Splits line box t
    → All (IsNodeOfLine line) (preorder t)
known_preorder line box Yes splits =
    All-cons (IsNodeOfLine line) node.Yes [] tt (All-nil (IsNodeOfLine line))
known_preorder line box Undecided splits =
    All-cons (IsNodeOfLine line) node.Undecided [] tt (All-nil (IsNodeOfLine line))
known_preorder line box (Split param mid first second) splits =
    All-cons (IsNodeOfLine line) (node.Split param mid) (preorder first ++ preorder second)
    splits.0.exists
    (All-append (IsNodeOfLine line) (preorder first) (preorder second)
    (known_preorder line (lower_half box param mid) first splits.1.0)
    (known_preorder line (upper_half box param mid) second splits.1.1))

pub known_nodes : (line : Line) (nodes : List Node) → AreTree line nodes
    → All (IsNodeOfLine line) nodes
known_nodes line nodes is =
    subst (λ (l : List Node). All (IsNodeOfLine line) l) (sym is.are)
    (known_preorder line _ is.tree is.splits)

-- the lines of a terminal
abbrev pub tree_lines : Line → List ℕ → SplitResult → List ℕ
tree_lines line name result = fed (tree_text name) ++ result_text line result

-- the lines of the terminals are those of one, and those of the others
pub trees_both : (line : Line) (name : List ℕ) (names : List (List ℕ)) (result : SplitResult)
    (results : List SplitResult) → trees_text line (name ∷ names) (result ∷ results)
    ≡ tree_lines line name result ++ trees_text line names results
trees_both line name names result results =
    sym (append_assoc (fed (tree_text name)) (result_text line result)
    (trees_text line names results))
