use Rattle.base_files.proofs.kept_lemmas.KeptLaws.{piece_of_whole}
use Rattle.base_files.proofs.kept.Kept.pull.Goals as goal

pub returns-clause-bytes : goal.returns-clause-bytes
returns-clause-bytes g c =
    let whole = rw (← c.self.view_is) at c.in_ok-read_past.ensures.whole in
    let past = rw (← c.self.view_is) at c.in_ok-read_past.ensures.past in
    let piece = rw c.as_slice.ensures.value at c.copy_from.ensures.piece in
    piece_of_whole _ _ _ _ _ _ whole past c.copy_from.ensures.within piece
