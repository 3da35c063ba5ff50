use Rattle.run_changes.proofs.changes_lemmas.MarkLaws.{marked_now, marked_still}
use Rattle.run_changes.proofs.changes.marks.mark.Goals as goal

pub returns-clause-marked : goal.returns-clause-marked
returns-clause-marked c =
    marked_now c.args.words.now.items c.args.gate c.index_mut.result.now c.requires

pub returns-clause-stay : goal.returns-clause-stay
returns-clause-stay c =
    marked_still c.args.words.now.items c.args.gate c.index_mut.result.now c.requires
    c.index_mut.ensures.value
