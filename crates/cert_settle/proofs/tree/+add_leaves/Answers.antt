use Rattle.std.proofs.Common.{◌≡◌, ◌+◌, ◌++◌, ℕ, List, drop, refl, sym, arith, subst}
use Rattle.std.proofs.lemmas.Result.{IfOk-weaker}
use Rattle.std.specs.Prelude.{slice_index_or}
use Rattle.judge_cases.specs.declared.node.CaseNode.{CaseNode}
use Rattle.judge_cases.specs.declared.node.CaseNode.TheVariants as node
use Rattle.judge_cases.specs.Nodes.{preorder}
use Rattle.cert_settle.proofs.WalkLaws.{root_at, within, two_next, can_stand, added_leaf, added_two}
use Rattle.cert_settle.proofs.tree.+add_leaves.Goals as goal

-- ---- the node

pub bounds-nodes-at : goal.bounds-nodes-at
bounds-nodes-at t c =
    let r = c.requires.tree in
    within r.tree r.after c.args.nodes.now c.args.at r.are

pub offset_bounds-nodes-at : goal.offset_bounds-nodes-at
offset_bounds-nodes-at t c =
    let r = c.requires.tree in
    let here = within r.tree r.after c.args.nodes.now c.args.at r.are in
    omega (arith, here, c.requires.few)

pub views_below-requires-clause-view : goal.views_below-requires-clause-view
views_below-requires-clause-view t c = c.requires.tree.is_view.is

pub views_below-requires-clause-stands : goal.views_below-requires-clause-stands
views_below-requires-clause-stands t c =
    let r = c.requires.tree in
    let nodes : List CaseNode = c.args.nodes.now in
    let at : ℕ = c.args.at in
    let root : CaseNode = slice_index_or nodes at node.Yes in
    can_stand c.args.line.now r.part c.args.view r.tree root r.is_view r.branches
    (root_at r.tree r.after nodes at node.Yes root r.are refl)

-- ---- a leaf

pub overflow_add-result : goal.overflow_add-result
overflow_add-result t c =
    let r = c.requires.tree in
    let here = within r.tree r.after c.args.nodes.now c.args.at r.are in
    omega (arith, here, c.requires.few)

pub returns-in_default : goal.returns-in_default
returns-in_default t c = λ part tree after is branches are.
    let nodes : List CaseNode = c.args.nodes.now in
    let at : ℕ = c.args.at in
    let root : CaseNode = slice_index_or nodes at node.Yes in
    added_leaf c.args.line.now tree part root c.args.view c.is_yes.result c.args.leaves.now
    c.push_leaf.new.leaves at (at + 1) (root_at tree after nodes at node.Yes root are refl)
    (rw c.in_default.is at (c.in_ok-first.ensures part is)) c.is_yes.ensures
    c.in_ok-push_leaf.ensures.views c.in_ok-push_leaf.ensures.yes is refl

-- ---- two trees

pub add_leaves-requires : goal.add_leaves-requires
add_leaves-requires t c =
    let r = c.requires.tree in
    let line = c.args.line.now in
    let nodes : List CaseNode = c.args.nodes.now in
    let at : ℕ = c.args.at in
    let root : CaseNode = slice_index_or nodes at node.Yes in
    let views = rw c.in-Some.is at (c.in_ok-first.ensures r.part r.is_view) in
    let inside = within r.tree r.after nodes at r.are in
    let two = two_next line r.part r.tree root views.first views.second r.after nodes at r.branches
    r.are (root_at r.tree r.after nodes at node.Yes root r.are refl) views.are in (
      omega (arith, inside, c.decreases),
      (
        c.requires.few,
        record {
          part = views.first;
          is_view = views.at_first;
          tree = two.first;
          after = preorder two.second ++ r.after;
          are = two.first_next;
          branches = two.lower;
        },
      ),
    )

pub add_leaves-requires-2 : goal.add_leaves-requires-2
add_leaves-requires-2 t c =
    let r = c.requires.tree in
    let line = c.args.line.now in
    let nodes : List CaseNode = c.args.nodes.now in
    let at : ℕ = c.args.at in
    let root : CaseNode = slice_index_or nodes at node.Yes in
    let views = rw c.in-Some.is at (c.in_ok-first.ensures r.part r.is_view) in
    let inside = within r.tree r.after nodes at r.are in
    let two = two_next line r.part r.tree root views.first views.second r.after nodes at r.branches
    r.are (root_at r.tree r.after nodes at node.Yes root r.are refl) views.are in
    let one = c.in_ok-between.ensures views.first two.first (preorder two.second ++ r.after)
    views.at_first two.lower two.first_next in (
      omega (arith, inside, one.nodes, c.decreases),
      (
        c.requires.few,
        record {
          part = views.second;
          is_view = views.at_second;
          tree = two.second;
          after = r.after;
          are = subst (λ (n : ℕ). drop n nodes ≡ preorder two.second ++ r.after) (sym one.nodes)
              two.second_next;
          branches = two.upper;
        },
      ),
    )

pub returns : goal.returns
returns t c = λ part tree after is branches are.
    let line = c.args.line.now in
    let nodes : List CaseNode = c.args.nodes.now in
    let at : ℕ = c.args.at in
    let root : CaseNode = slice_index_or nodes at node.Yes in
    let views = rw c.in-Some.is at (c.in_ok-first.ensures part is) in
    let two = two_next line part tree root views.first views.second after nodes at branches are
    (root_at tree after nodes at node.Yes root are refl) views.are in
    let one = c.in_ok-between.ensures views.first two.first (preorder two.second ++ after)
    views.at_first two.lower two.first_next in
    IfOk-weaker c.add_leaves-2.result _ _
    (λ end other. added_two line part views.first views.second tree after nodes at two
    c.in_ok-between.between end c.args.leaves.now c.add_leaves.new.leaves c.add_leaves-2.new.leaves one
    other)
    (c.add_leaves-2.ensures views.second two.second after views.at_second two.upper
    (subst (λ (n : ℕ). drop n nodes ≡ preorder two.second ++ after) (sym one.nodes)
    two.second_next))
