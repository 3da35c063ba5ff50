use Rattle.std.proofs.Common.{◌∙◌, ◌++◌, ◌∷◌, ap, subst, List}
use Rattle.std.specs.Prelude.{IfSome}
use Rattle.judge_match.specs.explain.Found.{AreNodesOver}
use Rattle.judge_match.specs.explain.Parts.{Parted, preorder, lower_part, upper_part}
use Rattle.judge_match.specs.declared.explain.tree.PartNode.{PartNode}
use Rattle.judge_match.specs.declared.explain.tree.PartNode.TheVariants as node
use Rattle.judge_match.proofs.explain.search.joined.Goals as goal

pub returns : goal.returns
returns c = λ line script within recorded part can below above.
    let param = c.args.cut.param in
    let mid = c.args.cut.mid in
    let a =
    subst (λ o. IfSome o (λ nodes. AreNodesOver line script within recorded
    (lower_part part param mid) nodes.items)) c.in-Some.is below in
    let b =
    subst (λ o. IfSome o (λ nodes. AreNodesOver line script within recorded
    (upper_part part param mid) nodes.items)) c.in-Some-above.is above in
    record {
      tree = Parted param mid a.tree b.tree;
      are = c.in_ok-nodes.ensures
          ∙ ap (λ (xs : List PartNode). node.Parted param mid ∷ (xs ++ c.deref-2.result.now))
          (c.deref.ensures.value ∙ a.are)
          ∙ ap (λ (ys : List PartNode). node.Parted param mid ∷ (preorder a.tree ++ ys))
          (c.deref-2.ensures.value ∙ b.are);
      excluded = (can, (a.excluded, b.excluded));
    }
