use Rattle.std.proofs.Common.{◌≡◌, true, subst}
use Rattle.model_logic.specs.Tree.{Tree}
use Rattle.model_logic.specs.SameTree.{same_tree}
use Rattle.model_logic.specs.SameTreeLaws.{tree-same, tree-itself}
use Rattle.model_settle.proofs.case_laws.same_trees_are_equal.Goals as goal

pub returns : goal.returns
returns c x y = (
  tree-same x y,
  λ e. subst (λ (z : Tree). same_tree x z ≡ true) e (tree-itself x),
)
