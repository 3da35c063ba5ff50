use Rattle.std.proofs.Common.{◌≡◌, length, arith, length-take, length-drop}
use Rattle.std.proofs.lemmas.List.{take_rest}
use Rattle.base_text.proofs.store_lemmas.Pieces.{at_most-le, piece_copied}
use Rattle.base_text.proofs.store.memory_store.copy_from.Goals as goal

pub returns-clause-piece : goal.returns-clause-piece
returns-clause-piece c =
    let after = rw take_rest at c.copy_from_slice.ensures.after in
    let least = rw (c.min.ensures, take_rest, length-drop) at c.at_most-count.ensures in
    let fits : length c.copy_from_slice.new.self ≡ c.at_most-count.result =
    (let e = c.copy_from_slice.ensures.len in
    let t = length-take c.at_most-count.result c.args.into.now in
    let n = c.at_most-count.ensures in
    let m = c.min.ensures in
    omega (arith, at_most-le c.args.bound c.min.result)) in
    piece_copied c.args.bytes.now c.args.from c.at_most-count.result c.args.bound
    c.copy_from_slice.new.self c.args.into.now c.requires after fits least
    (let inside = c.if-from-bytes.false in omega arith)
