use Rattle.std.proofs.Common.{◌≡◌, List, [], ◌∷◌, ◌++◌, map, sym, ◌∙◌, ap}
use Rattle.std.proofs.lemmas.Result.{err_from_is_err_and}
use Rattle.model_line.specs.SameLineLaws.{same_line}
use Rattle.model_logic.specs.Choice.{Box, declared_box}
use Rattle.judge_split.specs.{declared.node.Node.Node, Trees.preorder}
use Rattle.base_text.specs.lines.LineLaws.{goes_one, refused}
use Rattle.base_text.specs.{lines.Reading.said_as, lines.ReadLaws.later_fault}
use Rattle.cert_split.specs.text.Grammar.{Stands, opens, result_over, says_node, says_fails, below}
use Rattle.cert_split.specs.text.Grammar.{grammar_of}
use Rattle.cert_split.proofs.{text_lemmas.NodeLaws.not_result, text_lemmas.TreeLaws.whole_tree}
use Rattle.cert_split.proofs.text.read.read_result.Goals as goal

pub returns-in-Some : goal.returns-in-Some
returns-in-Some c = λ later.
    let line = c.args.line.now in
    let r = rw c.in-Some.is at c.in_ok-numbers.ensures in (
      r.0,
      goes_one (Stands line) opens (result_over (declared_box line)) later
          (says_fails c.in-Some.numbers.items) c.args.lines.now.rest.now c.in_ok-bytes.bytes.now
          c.take_line.new.self.rest.now c.args.lines.now.number c.take_line.new.self.number
          c.in_ok-bytes.ensures.0 (r.0, r.1) c.in_ok-bytes.ensures.1,
    )

pub returns-in_default-node_in : goal.returns-in_default-node_in
returns-in_default-node_in c = λ later.
    let line = c.args.line.now in
    let none = rw c.in_default.is at c.in_ok-numbers.ensures in
    refused (Stands line) opens (result_over (declared_box line)) later
    c.args.lines.now.rest.now c.in_ok-bytes.bytes.now c.take_line.new.self.rest.now
    c.args.lines.now.number c.in_ok-bytes.ensures.0
    (not_result line (declared_box line) c.in_ok-bytes.bytes.now none c.in_default-node_in.ensures)

pub returns-in_err-read_below : goal.returns-in_err-read_below
returns-in_err-read_below c =
    let q = err_from_is_err_and c.from_residual-in_err-read_below.result
    c.from_residual-in_err-read_below.ensures.1 in
    rw (q.1, q.2) (λ later.
    let line = c.args.line.now in
    let box : Box = declared_box line in
    let root : Node = c.in-Some-node_in.root in
    let one = goes_one (Stands line) opens (result_over box) later (says_node root)
    c.args.lines.now.rest.now c.in_ok-bytes.bytes.now c.take_line.new.self.rest.now
    c.args.lines.now.number c.take_line.new.self.number c.in_ok-bytes.ensures.0
    c.in-Some-node_in.ensures c.in_ok-bytes.ensures.1 in
    later_fault (grammar_of line) (result_over box ∷ later) (says_node root ∷ []) c.args.lines.now.rest.now
    c.args.lines.now.number (below 8 box root ++ later) c.take_line.new.self.rest.now
    c.take_line.new.self.number c.in_err-read_below.field-0.0 one
    (c.in_err-read_below.ensures box later (c.laws_below.ensures.parts.own line line (same_line line))))

pub returns : goal.returns
returns c = λ later.
    let line = c.args.line.now in
    let box : Box = declared_box line in
    let root : Node = c.in-Some-node_in.root in
    let one = goes_one (Stands line) opens (result_over box) later (says_node root)
    c.args.lines.now.rest.now c.in_ok-bytes.bytes.now c.take_line.new.self.rest.now
    c.args.lines.now.number c.take_line.new.self.number c.in_ok-bytes.ensures.0
    c.in-Some-node_in.ensures c.in_ok-bytes.ensures.1 in
    let b = c.in_ok-read_below.ensures box later
    (c.laws_below.ensures.parts.own line line (same_line line)) in
    let nodes : c.read_below.new.nodes.items ≡ preorder b.tree =
    b.nodes ∙ ap (λ (l : List Node). l ++ preorder b.tree) c.new-nodes.ensures.items in (
      record { tree = b.tree; are = nodes; splits = b.splits; low = b.low },
      said_as (Stands line) opens (result_over box ∷ later) (map says_node (preorder b.tree))
          (map says_node c.read_below.new.nodes.items) c.args.lines.now.rest.now
          c.args.lines.now.number later c.read_below.new.lines.rest.now
          c.read_below.new.lines.number (ap (λ (l : List Node). map says_node l) (sym nodes))
          (whole_tree line 8 box root c.new-nodes.result.items c.read_below.new.nodes.items
          (result_over box ∷ later) c.args.lines.now.rest.now c.args.lines.now.number
          c.take_line.new.self.rest.now c.take_line.new.self.number later
          c.read_below.new.lines.rest.now c.read_below.new.lines.number one b),
    )
