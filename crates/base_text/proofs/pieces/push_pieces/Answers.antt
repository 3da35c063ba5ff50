use Rattle.std.proofs.Common.{◌≡◌, ◌++◌, List, ℕ, Bor, [], map, take, sym, ◌∙◌, ap, arith}
use Rattle.std.proofs.Common.{append_assoc, get_or, ◌+◌}
use Rattle.std.specs.List.{concat}
use Rattle.base_text.specs.PieceLaws.{one_piece_more}
use Rattle.base_text.proofs.pieces.push_pieces.Goals as goal

pub loop-piece-preserved : goal.loop-piece-preserved
loop-piece-preserved c =
    let f = λ (piece : Bor (List ℕ)). piece.now in
    let pieces = c.args.pieces.now in
    let i = c.loop-piece.piece-index in
    let text : List ℕ = c.args.text.now.items in
    let before : List ℕ = concat (map f (take i pieces)) in
    let none : Bor (List ℕ) = record { ref_ptr = (0, 0); now = [] } in
    let more : concat (map f (take (i + 1) pieces)) ≡ before ++ f (get_or pieces i none) =
    one_piece_more f pieces i none (omega arith) in
    c.in_ok-extend_from_slice.ensures.items
    ∙ ap (λ (l : List ℕ). l ++ f (get_or pieces i none)) c.loop-piece.invariant
    ∙ append_assoc text before (f (get_or pieces i none))
    ∙ ap (λ (l : List ℕ). text ++ l) (sym more)
