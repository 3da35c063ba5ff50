use Rattle.std.proofs.Common.{◌-◌, ℕ, List, [], ◌∷◌, ◌++◌, map, arith}
use Rattle.std.proofs.lemmas.Result.{err_from_is_err_and, MatchResult-weaker}
use Rattle.model_logic.specs.Choice.{Box, declared_box}
use Rattle.judge_split.specs.{Trees.preorder}
use Rattle.model_logic.specs.Boxes.{lower_half, upper_half}
use Rattle.base_text.specs.lines.ReadLaws.{later_fault}
use Rattle.cert_split.specs.text.Grammar.{Place, node_over, says_node, below, grammar_of}
use Rattle.cert_split.proofs.text_lemmas.TreeLaws.{split_can, halves_fault, whole_tree, below_yes}
use Rattle.cert_split.proofs.text_lemmas.TreeLaws.{below_undecided, below_split}
use Rattle.cert_split.proofs.text_lemmas.NodeLaws.{may_in_box}
use Rattle.cert_split.proofs.text.read_tree.+tree.Goals as goal

-- ---- a half

pub read_half-read_below-requires : goal.read_half-read_below-requires
read_half-read_below-requires t c =
    let own = c.laws_below.ensures.parts.own c.args.line.now c.args.part.now c.requires in (
      omega (arith, c.decreases),
      (
        c.requires,
        (c.in_ok-root.ensures (declared_box c.args.part.now) [] own).0,
      ),
    )

pub read_half-returns-in_err-root : goal.read_half-returns-in_err-root
read_half-returns-in_err-root t c =
    let q = err_from_is_err_and c.from_residual.result c.from_residual.ensures.1 in
    rw (q.1, q.2) (λ box later p. c.in_err-root.ensures box later p)

pub read_half-returns : goal.read_half-returns
read_half-returns t c = λ box later p.
    let line = c.args.line.now in
    let n : ℕ = c.args.depth in
    let text : List ℕ = c.args.lines.now.rest.now in
    let a : ℕ = c.args.lines.now.number in
    let at : List ℕ = c.next_node.new.lines.rest.now in
    let b : ℕ = c.next_node.new.lines.number in
    let root = c.in_ok-root.root in
    let places : List Place = node_over n box ∷ later in
    let one = (c.in_ok-root.ensures box later p).1 in
    MatchResult-weaker c.read_below.result (c.read_below.ensures box later p)
    (λ done is. record {
      tree = is.tree;
      nodes = is.nodes;
      splits = is.splits;
      low = is.low;
      reads = whole_tree line n box root c.args.nodes.now.items c.read_below.new.nodes.items places
          text a at b later c.read_below.new.lines.rest.now c.read_below.new.lines.number one is;
    })
    (λ f is. later_fault (grammar_of line) places (says_node root ∷ []) text a
    (below n box root ++ later) at b f one is)

-- ---- below a node

pub read_below-read_half-requires : goal.read_below-read_half-requires
read_below-read_half-requires t c =
    let line = c.args.line.now in
    let part = c.args.part.now in
    let can = split_can part c.args.depth (declared_box part) c.args.root c.in-Split.param
    c.in-Split.mid c.in-Split.is c.requires.root in (
      omega (arith, can.left, c.decreases),
      (c.in_ok-half-in-Split.ensures.part line (declared_box part)
          (c.laws_below.ensures.parts.own line part c.requires.part)).rest,
    )

pub read_below-read_half-requires-in-Split : goal.read_below-read_half-requires-in-Split
read_below-read_half-requires-in-Split t c =
    let line = c.args.line.now in
    let part = c.args.part.now in
    let can = split_can part c.args.depth (declared_box part) c.args.root c.in-Split.param
    c.in-Split.mid c.in-Split.is c.requires.root in (
      omega (arith, can.left, c.decreases),
      (c.in_ok-other-in-Split.ensures.part line (declared_box part)
          (c.laws_below.ensures.parts.own line part c.requires.part)).rest,
    )

pub read_below-returns-in-Yes : goal.read_below-returns-in-Yes
read_below-returns-in-Yes t c = λ box later p.
    below_yes c.args.line.now c.args.depth box c.args.root c.args.nodes.now.items
    c.push.new.self.items c.args.lines.now.rest.now c.args.lines.now.number later c.in-Yes.is
    c.in_ok-push.ensures.items

pub read_below-returns-in-Undecided : goal.read_below-returns-in-Undecided
read_below-returns-in-Undecided t c = λ box later p.
    below_undecided c.args.line.now c.args.depth box c.args.root c.args.nodes.now.items
    c.push.new.self.items c.args.lines.now.rest.now c.args.lines.now.number later
    c.in-Undecided.is c.in_ok-push.ensures.items

pub read_below-returns-in_err-read_half-in-Split : goal.read_below-returns-in_err-read_half-in-Split
read_below-returns-in_err-read_half-in-Split t c =
    let q = err_from_is_err_and c.from_residual-in_err-read_half-in-Split.result
    c.from_residual-in_err-read_half-in-Split.ensures.1 in
    rw (q.1, q.2) (λ box later p.
    let line = c.args.line.now in
    let lower : Box = lower_half box c.in-Split.param c.in-Split.mid in
    let upper : Box = upper_half box c.in-Split.param c.in-Split.mid in
    let half = c.in_ok-half-in-Split.ensures.part line box p in
    halves_fault line c.args.depth box c.args.root c.in-Split.param c.in-Split.mid later
    c.args.lines.now.rest.now c.args.lines.now.number c.in_err-read_half-in-Split.field-0.0
    c.in-Split.is
    (c.in_err-read_half-in-Split.ensures lower (node_over (c.args.depth - 1) upper ∷ later) half))

pub read_below-returns-in_ok-other-in-Split : goal.read_below-returns-in_ok-other-in-Split
read_below-returns-in_ok-other-in-Split t c = λ box later p.
    let line = c.args.line.now in
    let n : ℕ = c.args.depth in
    let root = c.args.root in
    let param = c.in-Split.param in
    let mid = c.in-Split.mid in
    let text : List ℕ = c.args.lines.now.rest.now in
    let a : ℕ = c.args.lines.now.number in
    let at : List ℕ = c.read_half.new.lines.rest.now in
    let b : ℕ = c.read_half.new.lines.number in
    let lower : Box = lower_half box param mid in
    let upper : Box = upper_half box param mid in
    let last : List Place = node_over (n - 1) upper ∷ later in
    let one = c.in_ok-read_half-in-Split.ensures lower last
    (c.in_ok-half-in-Split.ensures.part line box p) in
    let other = c.in_ok-other-in-Split.ensures.part line box p in
    let can = split_can line n box root param mid c.in-Split.is
    (may_in_box c.laws_below.ensures line c.args.part.now n box root p c.requires.root) in
    MatchResult-weaker c.read_half-in-Split.result
    (c.read_half-in-Split.ensures upper later other)
    (λ done two. below_split line n box root param mid c.args.nodes.now.items
    c.push.new.self.items c.read_half.new.nodes.items c.read_half-in-Split.new.nodes.items later
    text a at b c.read_half-in-Split.new.lines.rest.now c.read_half-in-Split.new.lines.number
    c.in-Split.is can c.in_ok-push.ensures.items one two)
    (λ f is. halves_fault line n box root param mid later text a f c.in-Split.is
    (later_fault (grammar_of line) (node_over (n - 1) lower ∷ last)
    (map says_node (preorder one.tree)) text a last at b f one.reads is))
