use Rattle.model_line.proofs.DeclaredIntervals.{interval_at}
use Rattle.model_line.proofs.line.Line.greatest.Goals as goal

pub returns-clause-small : goal.returns-clause-small
returns-clause-small c =
    (interval_at c.args.self.now c.args.param c.index.result.now c.requires c.index.ensures).1
