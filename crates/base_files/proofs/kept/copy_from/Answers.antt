use Rattle.std.proofs.Common.{◌≡◌, length, arith, length-take, length-drop}
use Rattle.std.proofs.lemmas.List.{take_rest}
use Rattle.base_files.proofs.kept_lemmas.KeptLaws.{piece_copied}
use Rattle.base_files.proofs.kept.copy_from.Goals as goal

pub returns-clause-piece : goal.returns-clause-piece
returns-clause-piece c =
    let after = rw take_rest at c.copy_from_slice.ensures.after in
    let least = rw (take_rest, length-drop) at c.min-count.ensures in
    let fits : length c.copy_from_slice.new.self ≡ c.min-count.result =
    (let e = c.copy_from_slice.ensures.len in
    let t = length-take c.min-count.result c.args.into.now in
    let m = c.min-count.ensures in
    omega arith) in
    piece_copied c.args.bytes.now c.args.from c.min-count.result
    c.copy_from_slice.new.self c.args.into.now after fits least
    (let inside = c.if-from-bytes.false in omega arith)
