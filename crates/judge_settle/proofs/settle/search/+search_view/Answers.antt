use Rattle.std.proofs.Common.{◌≡◌, ◌<◌, ◌+◌, ◌-◌, ℕ, Option, subst, arith}
use Rattle.std.specs.Prelude.{IfSome}
use Rattle.judge_settle.specs.declared.settle.sides.Branches.{Branches}
use Rattle.judge_settle.specs.declared.settle.search.Found.{Found}
use Rattle.judge_settle.specs.settle.Sides.{AreBranches}
use Rattle.judge_settle.specs.{settle.Trees.IsGrownOver, settle.Trees.Size, settle.Leaves.IsFoundWith}
use Rattle.judge_settle.proofs.settle_lemmas.TreeLaws.{sides_are_views, ordered_views, ordered_joined}
use Rattle.judge_settle.proofs.settle_lemmas.LeafLaws.{more_and_more, shown_before}
use Rattle.judge_settle.proofs.settle.search.+search_view.Goals as goal

pub search_view-requires : goal.search_view-requires
search_view-requires t c =
    let line = c.args.compiled.now.line.now in
    let view = c.args.branch.view in
    let are : AreBranches line view c.in-Some-2.chosen.cut c.in-Some-3.branches =
    subst (λ (o : Option Branches). IfSome o (AreBranches line view c.in-Some-2.chosen.cut))
    c.in-Some-3.is c.in_ok-branches.ensures in
    let views = sides_are_views line view c.in-Some-2.chosen.cut are.first.view are.second.view
    c.requires.view are.sides in
    let both = ordered_views line are.first are.second c.in-Some-3.branches.worse
    c.in-Some-3.branches.other c.in-Some-3.branches.turned are.ordered views.0 views.1 in
    (omega arith, (c.requires.can, (both.0, c.requires.leaves)))

pub search_view-requires-2 : goal.search_view-requires-2
search_view-requires-2 t c =
    let line = c.args.compiled.now.line.now in
    let view = c.args.branch.view in
    let are : AreBranches line view c.in-Some-2.chosen.cut c.in-Some-3.branches =
    subst (λ (o : Option Branches). IfSome o (AreBranches line view c.in-Some-2.chosen.cut))
    c.in-Some-3.is c.in_ok-branches.ensures in
    let views = sides_are_views line view c.in-Some-2.chosen.cut are.first.view are.second.view
    c.requires.view are.sides in
    let both = ordered_views line are.first are.second c.in-Some-3.branches.worse
    c.in-Some-3.branches.other c.in-Some-3.branches.turned are.ordered views.0 views.1 in
    (omega arith, (c.requires.can, (both.1, c.in_ok-tree.ensures.leaves.views)))

pub returns-clause-found : goal.returns-clause-found
returns-clause-found t c = λ shown.
    let line = c.args.compiled.now.line.now in
    let script = c.args.scene.now.script.now in
    let k = c.args.scene.now.terminal in
    let view = c.args.branch.view in
    let cut = c.in-Some-2.chosen.cut in
    let branches = c.in-Some-3.branches in
    let depth : ℕ = c.args.depth in
    let before : ℕ = c.args.budget.now.cuts in
    let cut_once : ℕ = c.choose_in.new.budget.cuts in
    let between : ℕ = c.search_view.new.budget.cuts in
    let after : ℕ = c.search_view-2.new.budget.cuts in
    let size : Size = record { depth = depth; cuts = before - after } in
    let one : Size = record { depth = depth - 1; cuts = cut_once - between } in
    let two : Size = record { depth = depth - 1; cuts = between - after } in
    let some : 0 < before = c.is_spent.ensures c.if-is_spent.false in
    let spent : cut_once ≡ c.failing_in.new.budget.cuts - 1 =
    rw c.in-Some-2.is at c.in_ok-chosen.ensures in
    let deep : depth - 1 < depth = omega arith in
    let many : (cut_once - between) + (between - after) < before - after =
    omega (
      arith,
      some,
      spent,
      c.in_ok-timing.ensures.cuts,
      c.in_ok-tree.ensures.spent,
      c.in_ok-tree-2.ensures.spent,
    ) in
    let leaves = c.search_view.new.leaves.items in
    let all = c.search_view-2.new.leaves.items in
    let are : AreBranches line view cut branches =
    subst (λ (o : Option Branches). IfSome o (AreBranches line view cut)) c.in-Some-3.is
    c.in_ok-branches.ensures in
    let worse : IsGrownOver line script k one branches.worse.view c.in-Tree.tree =
    subst (λ (f : Found). IsFoundWith line script k one branches.worse.view leaves f) c.in-Tree.is
    c.in_ok-tree.ensures.found
    (shown_before line script k leaves all c.in_ok-tree-2.ensures.leaves shown) in
    let other : IsGrownOver line script k two branches.other.view c.in-Tree-2.tree =
    subst (λ (f : Found). IsFoundWith line script k two branches.other.view all f) c.in-Tree-2.is
    c.in_ok-tree-2.ensures.found shown in
    ordered_joined line script k view size one two
    (record { first = deep; second = deep; many = many }) cut are.first are.second branches.worse
    branches.other branches.turned c.in_ok-tree-3.tree c.in-Tree.tree c.in-Tree-2.tree
    c.in_ok-tree-3.ensures.nodes c.in_ok-tree-3.ensures.yes are.sides are.ordered worse other

pub returns-in-Fails-2-clause-leaves : goal.returns-in-Fails-2-clause-leaves
returns-in-Fails-2-clause-leaves t c =
    more_and_more c.args.compiled.now.line.now c.args.leaves.now.items
    c.search_view.new.leaves.items
    c.search_view-2.new.leaves.items c.in_ok-tree.ensures.leaves c.in_ok-tree-2.ensures.leaves

pub returns-clause-leaves : goal.returns-clause-leaves
returns-clause-leaves t c =
    more_and_more c.args.compiled.now.line.now c.args.leaves.now.items
    c.search_view.new.leaves.items
    c.search_view-2.new.leaves.items c.in_ok-tree.ensures.leaves c.in_ok-tree-2.ensures.leaves
