use Rattle.std.proofs.Common.{ℕ, ◌∷◌, sym, subst}
use Rattle.std.proofs.lemmas.Result.{err_from_is_err_and}
use Rattle.base_text.specs.lines.Lines.{LeavesAt}
use Rattle.base_text.specs.lines.LineLaws.{absent, refused}
use Rattle.cert_split.specs.text.Grammar.{Stands, opens, node_over}
use Rattle.cert_split.proofs.text_lemmas.NodeLaws.{not_node}
use Rattle.cert_split.proofs.text.read_tree.next_node.Goals as goal

pub node_in-requires : goal.node_in-requires
node_in-requires c = c.laws_below.ensures.counts.params c.args.line.now c.args.part.now c.requires

pub returns-in_err-bytes : goal.returns-in_err-bytes
returns-in_err-bytes c =
    let p = err_from_is_err_and c.from_residual.result c.from_residual.ensures.1 in
    let a : ℕ = c.args.lines.now.number in
    rw (p.1, p.2) (λ box later part.
    let P : ℕ → Type 0 = λ n. LeavesAt (Stands c.args.line.now) opens
    (node_over c.args.depth box ∷ later) c.args.lines.now.rest.now a n in
    subst P (sym c.in_err-bytes.ensures.0) (absent (Stands c.args.line.now) opens
    (node_over c.args.depth box) later c.args.lines.now.rest.now a c.in_err-bytes.ensures.1))

pub returns-in-None : goal.returns-in-None
returns-in-None c = λ box later p.
    refused (Stands c.args.line.now) opens (node_over c.args.depth box) later
    c.args.lines.now.rest.now c.in_ok-bytes.bytes.now c.take_line.new.self.rest.now
    c.args.lines.now.number c.in_ok-bytes.ensures.0
    (not_node c.laws_below.ensures c.args.line.now c.args.part.now c.args.depth box c.in_ok-bytes.bytes.now p
    c.in-None.ensures)
