-- The test of a tree's nodes and that of the tree.
use Rattle.std.proofs.Common.{◌≡◌, ◌&&◌, ◌∙◌, Bool, refl, ap}
use Rattle.std.proofs.lemmas.List.Folds.{list_all-append}
use Rattle.std.specs.List.{list_all}
use Rattle.judge_split.specs.Trees.{SplitTree, Yes, Undecided, Split, preorder, are_yes, is_decided}

-- a tree whose nodes in preorder have no undecided leaf is yes
pub decided_yes : (tree : SplitTree) → list_all is_decided (preorder tree) ≡ are_yes tree
decided_yes Yes = refl
decided_yes Undecided = refl
decided_yes (Split param mid first second) =
    list_all-append is_decided (preorder first) (preorder second)
    ∙ ap (λ (b : Bool). b && list_all is_decided (preorder second)) (decided_yes first)
    ∙ ap (λ (b : Bool). are_yes first && b) (decided_yes second)
