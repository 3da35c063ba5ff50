use Rattle.file_document.proofs.LeastKeys.{least_unknown}
use Rattle.file_document.proofs.laws.the_first_unknown_key_is_the_least.Goals as goal

pub returns : goal.returns
returns c = λ known key found.
    least_unknown known c.args.table.now.entries key c.iter-entries.ensures.ordered found
