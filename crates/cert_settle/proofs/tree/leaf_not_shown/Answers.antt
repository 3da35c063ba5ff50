use Rattle.std.proofs.Common.{[], Bool, List, length, sym, ◌∙◌, ap, arith, subst}
use Rattle.std.proofs.lemmas.List.{append-nil}
use Rattle.judge_cases.specs.Nodes.{preorder}
use Rattle.judge_cases.specs.declared.view.View.{View}
use Rattle.judge_cases.specs.{Views.AreViews, Analyses.TellEach}
use Rattle.cert_settle.specs.CaseParts.{Leaf, leaves, whole_part}
use Rattle.cert_settle.specs.Walks.{AreOfLeaves, IsFirstWrong}
use Rattle.cert_settle.proofs.ResultLaws.{tree_few}
use Rattle.cert_settle.proofs.WalkLaws.{no_leaves, are_views, flags_count, few_leaves}
use Rattle.cert_settle.proofs.FirstLeafLaws.{first_of_tree}
use Rattle.cert_settle.proofs.tree.leaf_not_shown.Goals as goal

pub add_leaves-requires-clause-few : goal.add_leaves-requires-clause-few
add_leaves-requires-clause-few c =
    tree_few c.args.of.now.compiled.line.now c.args.nodes.now c.requires.tree

pub add_leaves-requires-clause-tree : goal.add_leaves-requires-clause-tree
add_leaves-requires-clause-tree c =
    let r = c.requires.tree in
    record {
      part = whole_part c.args.of.now.compiled.line.now;
      is_view = c.in_ok-view.ensures;
      tree = r.tree;
      after = [];
      are = r.are ∙ sym (append-nil (preorder r.tree));
      branches = r.branches;
    }

pub are_shown-requires-clause-views : goal.are_shown-requires-clause-views
are_shown-requires-clause-views c =
    let line = c.args.of.now.compiled.line.now in
    let r = c.requires.tree in
    let all : List Leaf = leaves (whole_part line) r.tree in
    let of : AreOfLeaves line all c.add_leaves.new.leaves =
    (c.in_ok-add_leaves.ensures (whole_part line) r.tree [] c.in_ok-view.ensures r.branches
    (r.are ∙ sym (append-nil (preorder r.tree)))).more []
    (no_leaves line _ c.new.ensures.items c.new-2.ensures.items) in
    subst (AreViews line) (sym c.deref.ensures.value)
    (are_views line all c.add_leaves.new.leaves of)

pub first_wrong-requires-clause-one_each : goal.first_wrong-requires-clause-one_each
first_wrong-requires-clause-one_each c =
    let line = c.args.of.now.compiled.line.now in
    let r = c.requires.tree in
    let all : List Leaf = leaves (whole_part line) r.tree in
    let of : AreOfLeaves line all c.add_leaves.new.leaves =
    (c.in_ok-add_leaves.ensures (whole_part line) r.tree [] c.in_ok-view.ensures r.branches
    (r.are ∙ sym (append-nil (preorder r.tree)))).more []
    (no_leaves line _ c.new.ensures.items c.new-2.ensures.items) in
    omega (
      arith,
      ap length c.deref-3.ensures.value,
      ap length c.deref-2.ensures.value,
      ap length c.deref.ensures.value,
      c.in_ok-shown.ensures.count,
      flags_count line all c.add_leaves.new.leaves of,
      of.many,
    )

pub first_wrong-requires-clause-few : goal.first_wrong-requires-clause-few
first_wrong-requires-clause-few c =
    let line = c.args.of.now.compiled.line.now in
    let r = c.requires.tree in
    let all : List Leaf = leaves (whole_part line) r.tree in
    let of : AreOfLeaves line all c.add_leaves.new.leaves =
    (c.in_ok-add_leaves.ensures (whole_part line) r.tree [] c.in_ok-view.ensures r.branches
    (r.are ∙ sym (append-nil (preorder r.tree)))).more []
    (no_leaves line _ c.new.ensures.items c.new-2.ensures.items) in
    omega (
      arith,
      ap length c.deref-2.ensures.value,
      flags_count line all c.add_leaves.new.leaves of,
      few_leaves r.tree (whole_part line),
      ap length r.are,
      tree_few line c.args.nodes.now r,
    )

pub returns : goal.returns
returns c =
    let line = c.args.of.now.compiled.line.now in
    let r = c.requires.tree in
    let all : List Leaf = leaves (whole_part line) r.tree in
    let of : AreOfLeaves line all c.add_leaves.new.leaves =
    (c.in_ok-add_leaves.ensures (whole_part line) r.tree [] c.in_ok-view.ensures r.branches
    (r.are ∙ sym (append-nil (preorder r.tree)))).more []
    (no_leaves line _ c.new.ensures.items c.new-2.ensures.items) in
    let script = c.args.of.now.script.now in
    let k = c.args.of.now.terminal in
    let told = c.add_leaves.new.leaves in
    let shown : List Bool = c.in_ok-shown.shown.items in
    first_of_tree c.a_view_stands_for_its_box.ensures line script k r.tree c.args.nodes.now told shown
    c.first_wrong.result r.branches r.are of
    (subst (λ (views : List View). TellEach line script k views shown) c.deref.ensures.value
    c.in_ok-shown.ensures)
    (subst (λ (flags : List Bool). IsFirstWrong flags shown c.first_wrong.result)
    c.deref-2.ensures.value
    (subst (λ (those : List Bool). IsFirstWrong c.deref-2.result.now those c.first_wrong.result)
    c.deref-3.ensures.value c.first_wrong.ensures))
