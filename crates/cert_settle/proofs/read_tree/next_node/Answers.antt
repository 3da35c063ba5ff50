use Rattle.std.proofs.Common.{ℕ, ◌∷◌, sym, subst}
use Rattle.std.proofs.lemmas.Result.{err_from_is_err_and}
use Rattle.base_text.specs.lines.Lines.{LeavesAt}
use Rattle.base_text.specs.lines.LineLaws.{absent, refused, goes_one}
use Rattle.cert_settle.specs.Grammar.{Stands, opens, roots, Root, says_node}
use Rattle.cert_settle.proofs.TreeLaws.{not_root}
use Rattle.cert_settle.proofs.read_tree.next_node.Goals as goal

pub returns-in_err-bytes : goal.returns-in_err-bytes
returns-in_err-bytes c =
    let p = err_from_is_err_and c.from_residual.result c.from_residual.ensures.1 in
    let a : ℕ = c.args.lines.now.number in
    let line = c.args.line.now in
    rw (p.1, p.2) (λ box others later part.
    let root : Root = record { depth = c.args.limits.depth; box = box } in
    let P : ℕ → Type 0 = λ n. LeavesAt (Stands line) opens
    (roots c.args.limits.room root others ∷ later) c.args.lines.now.rest.now a n in
    subst P (sym c.in_err-bytes.ensures.0) (absent (Stands line) opens
    (roots c.args.limits.room root others) later c.args.lines.now.rest.now a
    c.in_err-bytes.ensures.1))

pub returns-in-None : goal.returns-in-None
returns-in-None c = λ box others later p.
    let line = c.args.line.now in
    let root : Root = record { depth = c.args.limits.depth; box = box } in
    refused (Stands line) opens (roots c.args.limits.room root others) later
    c.args.lines.now.rest.now c.in_ok-bytes.bytes.now c.take_line.new.self.rest.now
    c.args.lines.now.number c.in_ok-bytes.ensures.0
    (not_root line c.args.limits.room root c.in_ok-bytes.bytes.now (c.in-None.ensures box p))

pub returns-in-Some : goal.returns-in-Some
returns-in-Some c = λ box others later p.
    let line = c.args.line.now in
    let root : Root = record { depth = c.args.limits.depth; box = box } in
    let is = c.in-Some.ensures box p in (
      is.0,
      goes_one (Stands line) opens (roots c.args.limits.room root others) later
          (says_node c.in-Some.node) c.args.lines.now.rest.now c.in_ok-bytes.bytes.now
          c.take_line.new.self.rest.now c.args.lines.now.number c.take_line.new.self.number
          c.in_ok-bytes.ensures.0 is c.in_ok-bytes.ensures.1,
    )
