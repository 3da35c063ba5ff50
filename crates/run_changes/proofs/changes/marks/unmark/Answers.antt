use Rattle.run_changes.proofs.changes_lemmas.MarkLaws.{marked_others}
use Rattle.run_changes.proofs.changes.marks.unmark.Goals as goal

pub returns-clause-others : goal.returns-clause-others
returns-clause-others c = λ i other marked.
    marked_others c.args.words.now.items c.args.gate i c.index_mut.result.now c.requires
    c.index_mut.ensures.value other marked
