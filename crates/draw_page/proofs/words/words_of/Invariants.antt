use Rattle.std.proofs.Common.{◌≡◌, [], drop, map}
use Rattle.draw_page.specs.Words.{with_pieces}
use Rattle.draw_page.proofs.words.words_of.Given as goal

abbrev pub invariant-loop-piece : goal.invariant-loop-piece
invariant-loop-piece l =
    with_pieces l.text.items (map (λ piece. piece.now) (drop l.piece-index l.pieces))
    ≡ with_pieces [] (map (λ piece. piece.now) l.pieces)
