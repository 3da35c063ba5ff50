use Rattle.std.proofs.Common.{refl, arith}
use Rattle.run_changes.proofs.changes_lemmas.MarkLaws.{woken}
use Rattle.run_changes.proofs.changes.readers.wake_one.Goals as goal

pub mark-requires : goal.mark-requires
mark-requires c = let wide = c.requires.marks.wide in let inside = c.requires.inside in omega arith

pub returns-clause-marks : goal.returns-clause-marks
returns-clause-marks c =
    woken c.args.dues.now.items _ c.args.marks.now _ c.args.gate refl c.mark.ensures.count refl refl refl
    c.mark.ensures.marked c.mark.ensures.stay refl c.requires.marks
