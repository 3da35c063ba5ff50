use Rattle.model_logic.specs.{Unblocking.open_from, Received.received}
use Rattle.model_plain.proofs.ProgramLaws.{closed_from, closed_over}
use Rattle.model_plain.proofs.unblocking.open_from.Goals as goal

pub returns : goal.returns
unfolding open_from
returns c =
    let line = c.args.line.now in
    closed_from (open_from line c.args.k c.args.j) c.and.result (λ parts.
    c.and.ensures parts _ _
    (c.or-open.ensures parts _ _ (closed_over (received line c.args.k c.args.j)
    c.received-sent.result c.received-sent.ensures parts) (c.unblocked.ensures parts))
    (c.not.ensures parts _ (c.locked_out-locked.ensures parts)))
