use Rattle.std.proofs.Common.{◌≡◌, List, Some, length, sym, subst}
use Rattle.std.specs.Prelude.{slice_get}
use Rattle.model_history.specs.ListLaws.{last_push}
use Rattle.judge_cases.specs.declared.view.View.{View}
use Rattle.judge_settle.proofs.settle_lemmas.TreeLaws.{leaf_yes}
use Rattle.judge_settle.proofs.settle_lemmas.LeafLaws.{one_more}
use Rattle.judge_settle.proofs.settle.leaves.taken_leaf.Goals as goal

pub returns-clause-grown : goal.returns-clause-grown
returns-clause-grown c = λ line script k size shown.
    let view = c.args.view in
    let before = c.args.leaves.now.items in
    let after = c.push.new.self.items in
    let at : slice_get after (length before) ≡ Some view =
    subst (λ (l : List View). slice_get l (length before) ≡ Some view)
    (sym c.in_ok-push.ensures.items) (last_push before view) in
    leaf_yes line script k view size c.in_ok-tree.tree c.in_ok-tree.ensures.nodes
    c.in_ok-tree.ensures.yes
    (λ box assumed views.
    (c.a_view_stands_for_its_box.ensures line script k box assumed view views).0
    (shown.each (length before) view at))

pub returns-clause-leaves : goal.returns-clause-leaves
returns-clause-leaves c = λ line here views.
    one_more line c.args.leaves.now.items c.push.new.self.items c.args.view
    c.in_ok-push.ensures.items here views
