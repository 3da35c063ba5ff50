use Rattle.std.proofs.Common.{◌≡◌, List, [], ◌∷◌, ◌++◌, map, sym, ◌∙◌, ap, arith}
use Rattle.std.proofs.lemmas.Result.{err_from_is_err_and}
use Rattle.model_logic.specs.Choice.{Box, declared_box}
use Rattle.base_text.specs.lines.LineLaws.{goes_one}
use Rattle.base_text.specs.{lines.Reading.said_as, lines.ReadLaws.later_fault}
use Rattle.judge_cases.specs.declared.node.CaseNode.{CaseNode}
use Rattle.judge_cases.specs.Nodes.{preorder}
use Rattle.cert_settle.specs.Grammar.{Stands, opens, result_over, says_node, after_node}
use Rattle.cert_settle.specs.Grammar.{grammar_of, whole_over}
use Rattle.judge_cases.specs.Trees.{most_branches}
use Rattle.judge_cases.specs.Views.{view_box}
use Rattle.cert_settle.proofs.NodeLaws.{own_box, over_box}
use Rattle.cert_settle.proofs.TreeLaws.{whole_tree}
use Rattle.cert_settle.proofs.read.read_result.Goals as goal

pub returns-in_default : goal.returns-in_default
returns-in_default c = λ later.
    let line = c.args.line.now in
    let own = over_box line (declared_box line) [] c.in_ok-view.view c.in_ok-view.ensures in
    c.read_timing.ensures (declared_box line) later c.args.lines.now.rest.now c.in_ok-bytes.ensures.0
    (c.in_default.ensures (declared_box line) own)

pub read_below-requires-clause-root : goal.read_below-requires-clause-root
read_below-requires-clause-root c =
    let line = c.args.line.now in
    let view = c.in_ok-view.view in
    (c.in-Some.ensures (view_box line view) (own_box line view c.in_ok-view.ensures.is)).0

pub returns-in_err-read_below : goal.returns-in_err-read_below
returns-in_err-read_below c =
    let q = err_from_is_err_and c.from_residual-in_err-read_below.result
    c.from_residual-in_err-read_below.ensures.1 in
    rw (q.1, q.2) (λ later.
    let line = c.args.line.now in
    let box : Box = declared_box line in
    let root : CaseNode = c.in-Some.root in
    let own = over_box line (declared_box line) [] c.in_ok-view.view c.in_ok-view.ensures in
    let one = goes_one (Stands line) opens (result_over box) later (says_node root)
    c.args.lines.now.rest.now c.in_ok-bytes.bytes.now c.take_line.new.self.rest.now
    c.args.lines.now.number c.take_line.new.self.number c.in_ok-bytes.ensures.0
    (c.in-Some.ensures box own) c.in_ok-bytes.ensures.1 in
    later_fault (grammar_of line) (result_over box ∷ later) (says_node root ∷ [])
    c.args.lines.now.rest.now c.args.lines.now.number
    (after_node most_branches (whole_over box) [] root ++ later) c.take_line.new.self.rest.now
    c.take_line.new.self.number c.in_err-read_below.field-0.0 one
    (c.in_err-read_below.ensures box [] later own))

pub returns : goal.returns
returns c = λ later.
    let line = c.args.line.now in
    let box : Box = declared_box line in
    let root : CaseNode = c.in-Some.root in
    let own = over_box line (declared_box line) [] c.in_ok-view.view c.in_ok-view.ensures in
    let one = goes_one (Stands line) opens (result_over box) later (says_node root)
    c.args.lines.now.rest.now c.in_ok-bytes.bytes.now c.take_line.new.self.rest.now
    c.args.lines.now.number c.take_line.new.self.number c.in_ok-bytes.ensures.0
    (c.in-Some.ensures box own) c.in_ok-bytes.ensures.1 in
    let b = c.in_ok-read_below.ensures box [] later own in
    let nodes : c.read_below.new.nodes.items ≡ preorder b.is.tree =
    b.is.nodes ∙ ap (λ (l : List CaseNode). l ++ preorder b.is.tree) c.new-nodes.ensures.items in (
      record {
        tree = b.is.tree;
        are = nodes;
        branches = b.is.branches;
        low = b.is.low;
        few = omega (arith, b.is.spent);
      },
      said_as (Stands line) opens (result_over box ∷ later) (map says_node (preorder b.is.tree))
          (map says_node c.read_below.new.nodes.items) c.args.lines.now.rest.now
          c.args.lines.now.number later c.read_below.new.lines.rest.now
          c.read_below.new.lines.number (ap (λ (l : List CaseNode). map says_node l) (sym nodes))
          (whole_tree line (result_over box ∷ later) most_branches c.in_ok-read_below.field-0
          (whole_over box) root c.new-nodes.result.items c.read_below.new.nodes.items []
          c.args.lines.now.rest.now c.args.lines.now.number c.take_line.new.self.rest.now
          c.take_line.new.self.number later c.read_below.new.lines.rest.now
          c.read_below.new.lines.number one b),
    )
