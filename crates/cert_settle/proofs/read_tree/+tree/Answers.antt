use Rattle.std.proofs.Common.{ℕ, List, [], ◌∷◌, ◌++◌, map, arith}
use Rattle.std.proofs.lemmas.Result.{err_from_is_err_and, MatchResult-weaker}
use Rattle.model_logic.specs.Boxes.{lower_half}
use Rattle.model_settle.specs.Parts.{upper_from}
use Rattle.judge_cases.specs.Views.{view_box}
use Rattle.judge_cases.specs.declared.node.CaseNode.TheVariants as node
use Rattle.base_text.specs.lines.ReadLaws.{later_fault}
use Rattle.judge_cases.specs.Nodes.{preorder}
use Rattle.cert_settle.specs.Grammar.{Place, Root, roots, says_node, expected, after_node}
use Rattle.cert_settle.specs.Grammar.{grammar_of}
use Rattle.cert_settle.proofs.TreeLaws.{part_can, tell_can, below_fault, whole_tree}
use Rattle.cert_settle.proofs.TreeLaws.{below_yes, below_undecided, below_part, below_span}
use Rattle.cert_settle.proofs.TreeLaws.{two_trees}
use Rattle.cert_settle.proofs.NodeLaws.{may_in_box, own_box, as_views, over_box}
use Rattle.cert_settle.proofs.read_tree.+tree.Goals as goal

-- ---- a tree

pub read_tree-read_below-requires : goal.read_tree-read_below-requires
read_tree-read_below-requires t c =
    let line = c.args.line.now in
    let view = c.args.view.now in (
      omega (arith, c.decreases),
      (
        c.requires,
        (c.in_ok-node.ensures (view_box line view) [] [] (own_box line view c.requires)).0,
      ),
    )

pub read_tree-returns-in_err-node : goal.read_tree-returns-in_err-node
read_tree-returns-in_err-node t c =
    let q = err_from_is_err_and c.from_residual.result c.from_residual.ensures.1 in
    rw (q.1, q.2) (λ box others later p. c.in_err-node.ensures box others later p)

pub read_tree-returns : goal.read_tree-returns
read_tree-returns t c = λ box others later p.
    let line = c.args.line.now in
    let room : ℕ = c.args.limits.room in
    let root : Root = record { depth = c.args.limits.depth; box = box } in
    let text : List ℕ = c.args.lines.now.rest.now in
    let a : ℕ = c.args.lines.now.number in
    let at : List ℕ = c.next_node.new.lines.rest.now in
    let b : ℕ = c.next_node.new.lines.number in
    let n = c.in_ok-node.node in
    let places : List Place = roots room root others ∷ later in
    let one = (c.in_ok-node.ensures box others later p).1 in
    MatchResult-weaker c.read_below.result (c.read_below.ensures box others later p)
    (λ left is. record {
      is = is.is;
      reads = whole_tree line places room left root n c.args.nodes.now.items
          c.read_below.new.nodes.items others text a at b later c.read_below.new.lines.rest.now
          c.read_below.new.lines.number one is;
    })
    (λ f is. later_fault (grammar_of line) places (says_node n ∷ []) text a
    (after_node room root others n ++ later) at b f one is)

-- ---- two trees

pub read_two-read_tree-requires : goal.read_two-read_tree-requires
read_two-read_tree-requires t c = (omega (arith, c.decreases), c.requires.first)

pub read_two-read_tree-requires-2 : goal.read_two-read_tree-requires-2
read_two-read_tree-requires-2 t c = (omega (arith, c.decreases), c.requires.second)

pub read_two-returns-in_err-room : goal.read_two-returns-in_err-room
read_two-returns-in_err-room t c =
    let q = err_from_is_err_and c.from_residual.result c.from_residual.ensures.1 in
    rw (q.1, q.2) (λ lower upper others later p r.
    let second : Root = record { depth = c.args.limits.depth; box = upper } in
    c.in_err-room.ensures lower (second ∷ others) later p)

pub read_two-returns : goal.read_two-returns
read_two-returns t c = λ lower upper others later p r.
    let line = c.args.line.now in
    let room : ℕ = c.args.limits.room in
    let first : Root = record { depth = c.args.limits.depth; box = lower } in
    let second : Root = record { depth = c.args.limits.depth; box = upper } in
    let text : List ℕ = c.args.lines.now.rest.now in
    let a : ℕ = c.args.lines.now.number in
    let at : List ℕ = c.read_tree.new.lines.rest.now in
    let b : ℕ = c.read_tree.new.lines.number in
    let one = c.in_ok-room.ensures lower (second ∷ others) later p in
    MatchResult-weaker c.read_tree-2.result (c.read_tree-2.ensures upper others later r)
    (λ left two. two_trees line first second room c.in_ok-room.room left c.args.nodes.now.items
    c.read_tree.new.nodes.items c.read_tree-2.new.nodes.items others text a at b later
    c.read_tree-2.new.lines.rest.now c.read_tree-2.new.lines.number one two)
    (λ f is. later_fault (grammar_of line) (expected room (first ∷ (second ∷ others)) ++ later)
    (map says_node (preorder one.is.tree)) text a
    (expected c.in_ok-room.room (second ∷ others) ++ later) at b f one.reads is)

-- ---- below a node

pub read_below-returns-in-Yes : goal.read_below-returns-in-Yes
read_below-returns-in-Yes t c = λ box others later p.
    below_yes c.args.line.now c.args.limits.room
    (record { depth = c.args.limits.depth; box = box }) c.args.root c.args.nodes.now.items
    c.push.new.self.items others c.args.lines.now.rest.now c.args.lines.now.number later c.in-Yes.is
    c.in_ok-push.ensures.items

pub read_below-returns-in-Undecided : goal.read_below-returns-in-Undecided
read_below-returns-in-Undecided t c = λ box others later p.
    below_undecided c.args.line.now c.args.limits.room
    (record { depth = c.args.limits.depth; box = box }) c.args.root c.args.nodes.now.items
    c.push.new.self.items others c.args.lines.now.rest.now c.args.lines.now.number later
    c.in-Undecided.is c.in_ok-push.ensures.items

pub read_below-read_two-requires : goal.read_below-read_two-requires
read_below-read_two-requires t c =
    let line = c.args.line.now in
    let view = c.args.view.now in
    let own : Root = record { depth = c.args.limits.depth; box = view_box line view } in
    let can = part_can line c.args.limits.room own c.args.root c.in-Parted.param c.in-Parted.mid
    c.in-Parted.is c.requires.root in
    let views = as_views line own.box view (own_box line view c.requires.view) in (
      omega (arith, can.left.deep, c.decreases),
      (
        (c.in_ok-lower-in-Parted.ensures own.box view.assumed.items views).is,
        (c.in_ok-upper-in-Parted.ensures own.box view.assumed.items views).is,
      ),
    )

pub read_below-returns-in_ok-upper-in-Parted : goal.read_below-returns-in_ok-upper-in-Parted
read_below-returns-in_ok-upper-in-Parted t c = λ box others later p.
    let line = c.args.line.now in
    let view = c.args.view.now in
    let room : ℕ = c.args.limits.room in
    let root : Root = record { depth = c.args.limits.depth; box = box } in
    let n = c.args.root in
    let param : ℕ = c.in-Parted.param in
    let mid : ℕ = c.in-Parted.mid in
    let text : List ℕ = c.args.lines.now.rest.now in
    let a : ℕ = c.args.lines.now.number in
    let views = as_views line box view p in
    let can = part_can line room root n param mid c.in-Parted.is
    (may_in_box line view room c.args.limits.depth box n p c.requires.root) in
    MatchResult-weaker c.read_two.result
    (c.read_two.ensures (lower_half box param mid) (upper_from box param mid) others later
    (over_box line _ _ _ (c.in_ok-lower-in-Parted.ensures box view.assumed.items views))
    (over_box line _ _ _ (c.in_ok-upper-in-Parted.ensures box view.assumed.items views)))
    (λ left two. below_part line room left root n param mid c.args.nodes.now.items
    c.push.new.self.items c.read_two.new.nodes.items others text a later
    c.read_two.new.lines.rest.now c.read_two.new.lines.number c.in-Parted.is can
    c.in_ok-push.ensures.items two)
    (λ f is. below_fault line room root others n (node.Parted param mid) later text a f c.in-Parted.is
    is)

pub read_below-returns-in-Wanted : goal.read_below-returns-in-Wanted
read_below-returns-in-Wanted t c = λ box others later p.
    let line = c.args.line.now in
    let room : ℕ = c.args.limits.room in
    let root : Root = record { depth = c.args.limits.depth; box = box } in
    let n = c.args.root in
    let terminal : ℕ = c.in-Wanted._terminal in
    let from : ℕ = c.in-Wanted._from in
    let to : ℕ = c.in-Wanted._to in
    let text : List ℕ = c.args.lines.now.rest.now in
    let a : ℕ = c.args.lines.now.number in
    let can = tell_can line room root n terminal from to c.in-Wanted.is
    (may_in_box line c.args.view.now room c.args.limits.depth box n p c.requires.root) in
    MatchResult-weaker c.read_two-in-Wanted.result
    (c.read_two-in-Wanted.ensures box box others later p p)
    (λ left two. below_span line room left root n terminal from to c.args.nodes.now.items
    c.push.new.self.items c.read_two-in-Wanted.new.nodes.items others text a later
    c.read_two-in-Wanted.new.lines.rest.now c.read_two-in-Wanted.new.lines.number c.in-Wanted.is can
    c.in_ok-push.ensures.items two)
    (λ f is. below_fault line room root others n (node.Wanted terminal from to) later text a f
    c.in-Wanted.is is)
