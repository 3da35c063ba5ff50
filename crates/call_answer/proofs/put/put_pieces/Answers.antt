use Rattle.std.proofs.Common.{◌∙◌, [], arith}
use Rattle.std.proofs.lemmas.Result.{err_from_is_err_and}
use Rattle.call_answer.proofs.Puts.{pieces_split}
use Rattle.base_text.specs.store.SinkLaws.{appends_both, proper_later, proper_more}
use Rattle.base_text.specs.PieceLaws.{one_piece_more}
use Rattle.call_answer.proofs.put.put_pieces.Goals as goal

pub returns-in_err-put_all : goal.returns-in_err-put_all
returns-in_err-put_all g c =
    let p = err_from_is_err_and c.from_residual.result c.from_residual.ensures.1 in
    let inv = c.loop-piece.invariant in
    rw p.1 (
      rw inv.same at c.in_err-put_all.ensures.failed,
      rw (pieces_split (λ piece. piece.now) c.args.pieces.now c.loop-piece.piece-index
          (record { ref_ptr = (0, 0); now = [] }) (omega arith))
          (proper_more _ _ _ _ (proper_later _ _ _ _ _ inv.taken c.in_err-put_all.ensures.part)),
    )

pub loop-piece-preserved : goal.loop-piece-preserved
loop-piece-preserved g c =
    let inv = c.loop-piece.invariant in
    record {
      taken = rw (one_piece_more (λ piece. piece.now) c.args.pieces.now c.loop-piece.piece-index
          (record { ref_ptr = (0, 0); now = [] }) (omega arith))
          (appends_both _ _ _ _ _ inv.taken c.in_ok-put_all.ensures.all);
      same = c.in_ok-put_all.ensures.same ∙ inv.same;
    }
