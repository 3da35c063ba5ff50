use Rattle.std.proofs.Common.{◌≡◌, ◌<◌, ◌∙◌, arith, length, map, None, sym}
use Rattle.file_records.specs.map.Recorders.{recorder_values}
use Rattle.file_records.specs.tracks.Told.{untold_at}
use Rattle.file_records.proofs.tracks_lemmas.Loops.{told_more}
use Rattle.file_records.proofs.tracks.told.first_untold.Goals as goal

pub loop-k-preserved : goal.loop-k-preserved
loop-k-preserved c =
    let none : untold_at (map recorder_values c.args.recorders.now) c.loop-k.k ≡ None =
    cc (c.untold_at.ensures, c.in_default.is) in
    let inside : c.loop-k.k < length c.args.line.now.terminals.items = omega arith in
    sym (told_more (map recorder_values c.args.recorders.now) c.loop-k.k
    (length c.args.line.now.terminals.items) inside none)
    ∙ c.loop-k.invariant
