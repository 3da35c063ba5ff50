use Rattle.std.proofs.Common.{[], arith}
use Rattle.std.proofs.lemmas.List.{drop_more}
use Rattle.draw_page.proofs.words.words_of.Goals as goal

pub loop-piece-preserved : goal.loop-piece-preserved
loop-piece-preserved c =
    rw c.in_ok-extend_from_slice.ensures.items
    (rw (drop_more c.args.pieces.now c.loop-piece.piece-index (record { ref_ptr = (0, 0); now = [] })
    (omega arith)) at c.loop-piece.invariant)
